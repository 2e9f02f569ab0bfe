use Rattle.hpr_graph.specs.Numbered.{graph_in}
use Rattle.hpr_graph.specs.Points.{IsAffected}
use Rattle.hpr_affected.proofs.PointLists.{AreNumbersBefore}
use Rattle.hpr_affected.proofs.comparison.Comparison.affected.Given as goal

abbrev pub invariant-loop-at : goal.invariant-loop-at
invariant-loop-at l = AreNumbersBefore l.self.graph (IsAffected (graph_in l.self.graph) (graph_in l.self.other)) l.points.items l.at
