use Rattle.std.proofs.Common.{length, take}
use Rattle.hpr_search.specs.Marks.{Visited}
use Rattle.hpr_impact.specs.Private.Search.{AreCome, points_of}
use Rattle.hpr_impact.proofs.search.visit_each.Given as goal

abbrev pub invariant-loop-point : goal.invariant-loop-point
invariant-loop-point l = record {
  visited : Visited (points_of l.initial.visits.items) (take l.point-index l.points) (length l.initial.marks.items) l.marks.items (points_of l.visits.items);
  come : AreCome l.from l.points l.initial.visits.items l.visits.items;
}
