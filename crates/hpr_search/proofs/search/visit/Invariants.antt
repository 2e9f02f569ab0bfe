use Rattle.std.proofs.Common.{length, take}
use Rattle.hpr_search.specs.Marks.{Visited}
use Rattle.hpr_search.proofs.search.visit.Given as goal

abbrev pub invariant-loop-point : goal.invariant-loop-point
invariant-loop-point l = Visited l.initial.order.items (take l.point-index l.points) (length l.initial.marks.items) l.marks.items l.order.items
