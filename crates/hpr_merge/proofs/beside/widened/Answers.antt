use Rattle.std.proofs.Common.{◌∙◌, ◌↔◌, ◌⊎◌}
use Rattle.std.proofs.lemmas.Result.{IfOk-weaker}
use Rattle.hpr_graph.specs.declared.vertex.Vertex.{Vertex}
use Rattle.hpr_graph.specs.declared.edge.Edge.{Edge}
use Rattle.hpr_graph.specs.Graphs.{Same}
use Rattle.hpr_graph.specs.Numbered.{HasEdge, HasVertex, graph_in}
use Rattle.hpr_merge.proofs.Widened.{all_vertices, all_edges}
use Rattle.hpr_merge.proofs.beside.widened.Goals as goal

pub returns-clause-vertices : goal.returns-clause-vertices
returns-clause-vertices c =
    IfOk-weaker c.in_order.result (λ g. Same (graph_in g) (graph_in c.in_ok-union.field-0)) (λ g. (v : Vertex) → HasVertex g v ↔ (HasVertex c.args.graph.now v ⊎ HasVertex c.args.other.now v))
    (λ g same. all_vertices c.in_ok-bare.bare c.args.graph.now c.args.other.now c.in_ok-union.field-0 g (c.in_ok-bare.ensures.vertices ∙ c.vertices.ensures.vertices) c.in_ok-bare.ensures.none c.in_ok-union.ensures same)
    c.in_order.ensures.same

pub returns-clause-edges : goal.returns-clause-edges
returns-clause-edges c =
    IfOk-weaker c.in_order.result (λ g. Same (graph_in g) (graph_in c.in_ok-union.field-0)) (λ g. (e : Edge) → HasEdge g e ↔ HasEdge c.args.graph.now e)
    (λ g same. all_edges c.in_ok-bare.bare c.args.graph.now c.args.other.now c.in_ok-union.field-0 g (c.in_ok-bare.ensures.vertices ∙ c.vertices.ensures.vertices) c.in_ok-bare.ensures.none c.in_ok-union.ensures same)
    c.in_order.ensures.same
