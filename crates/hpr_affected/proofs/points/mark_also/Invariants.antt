use Rattle.std.proofs.Common.{◌<◌}
use Rattle.hpr_search.specs.Marks.{IsMarked}
use Rattle.hpr_affected.proofs.MarkRows.{AreMarked}
use Rattle.hpr_affected.proofs.points.mark_also.Given as goal

abbrev pub invariant-loop-at : goal.invariant-loop-at
invariant-loop-at l = AreMarked l.initial.marks.items l.marks.items (λ n. (n < l.at) × IsMarked l.more n)
