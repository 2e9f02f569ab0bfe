use Rattle.std.proofs.lemmas.Result.{IfOk-weaker}
use Rattle.hpr_graph.specs.InOrder.{AreEdgesOf, edges_of}
use Rattle.hpr_graph.specs.Numbered.{graph_in}
use Rattle.hpr_graph.proofs.InOrder.{edges_reordered}
use Rattle.hpr_drawn.proofs.dot.dot_text.Goals as goal

pub returns : goal.returns
returns c =
    let g = c.in_ok-graph.graph in
    let now = c.in_ok-graph.ensures in
    let are : AreEdgesOf (graph_in c.args.graph.now) (edges_of g) =
    edges_reordered c.args.graph.now g c.vertices-vertices.ensures.numbered now.same now.vertices now.rows in
    IfOk-weaker c.ordered_text.result _ _ (λ text is. (g.vertices, edges_of g, now.vertices, are, is)) c.ordered_text.ensures
