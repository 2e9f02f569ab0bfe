use Rattle.std.proofs.Common.{ℕ, sym, subst}
use Rattle.hpr_graph.specs.Graphs.{HasEdges}
use Rattle.hpr_graph.specs.Numbered.{Numbered, graph_in, rows_of}
use Rattle.hpr_graph.proofs.Numbers.{numbered}
use Rattle.hpr_graph.proofs.EdgeList.{edges_counted}
use Rattle.hpr_graph.proofs.draft.Draft.edge_count.Goals as goal

pub returns-clause-edges : goal.returns-clause-edges
returns-clause-edges c =
    subst (λ (g : Numbered). HasEdges (graph_in g) c.self.inside.edges) c.self.view_is
    (subst (λ (n : ℕ). HasEdges (graph_in (numbered c.self.inside.vertices.keys (rows_of c.self.inside.links.items))) n) (sym c.self.invariant.count)
    (edges_counted _ c.self.invariant.numbered))
