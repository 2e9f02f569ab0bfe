use Rattle.std.proofs.Common.{List}
use Rattle.hpr_graph.specs.Numbered.{Numbered, graph_in, graphs_in}
use Rattle.hpr_graph.specs.Points.{IsPreservedBy}
use Rattle.hpr_affected.specs.Shared.{MarksUnshared}
use Rattle.hpr_affected.proofs.PointLists.{AreNumbersBefore}
use Rattle.hpr_affected.proofs.points.shared_points.Given as goal

abbrev pub invariant-loop-at : goal.invariant-loop-at
invariant-loop-at l = (gs : List Numbered) → MarksUnshared l.base gs l.unshared → AreNumbersBefore l.base (IsPreservedBy (graph_in l.base) (graphs_in gs)) l.points.items l.at
