use Rattle.hpr_graph.specs.Numbered.{graph_in}
use Rattle.hpr_graph.specs.Direct.{IsDirectlyAffected}
use Rattle.hpr_affected.proofs.PointLists.{AreNumbersBefore}
use Rattle.hpr_affected.proofs.differing.direct_points.Given as goal

abbrev pub invariant-loop-at : goal.invariant-loop-at
invariant-loop-at l = AreNumbersBefore l.graph (IsDirectlyAffected (graph_in l.graph) (graph_in l.other)) l.points.items l.at
