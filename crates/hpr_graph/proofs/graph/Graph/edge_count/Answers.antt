use Rattle.std.proofs.Common.{subst}
use Rattle.hpr_graph.specs.Graphs.{HasEdges}
use Rattle.hpr_graph.specs.Numbered.{Numbered, graph_in}
use Rattle.hpr_graph.proofs.graph.Graph.edge_count.Goals as goal

pub returns-clause-edges : goal.returns-clause-edges
returns-clause-edges c = subst (λ (g : Numbered). HasEdges (graph_in g) c.edge_count.result) c.self.view_is c.edge_count.ensures.edges
