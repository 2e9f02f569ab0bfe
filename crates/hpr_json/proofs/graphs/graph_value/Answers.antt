use Rattle.std.proofs.lemmas.Result.{IfOk-weaker}
use Rattle.hpr_graph.specs.InOrder.{AreEdgesOf, edges_of}
use Rattle.hpr_graph.specs.Numbered.{graph_in}
use Rattle.hpr_graph.proofs.InOrder.{edges_reordered}
use Rattle.hpr_json.proofs.graphs.graph_value.Goals as goal

pub returns-clause-data : goal.returns-clause-data
returns-clause-data c =
    let g = c.in_ok-graph.graph in
    let are : AreEdgesOf (graph_in c.args.graph.now) (edges_of g) = edges_reordered c.args.graph.now g c.vertices-vertices.ensures.numbered (c.in_ok-graph.ensures).same (c.in_ok-graph.ensures).vertices (c.in_ok-graph.ensures).rows in
    IfOk-weaker c.ordered_value.result _ _ (λ value is. (g.vertices, edges_of g, (c.in_ok-graph.ensures).vertices, are, is)) c.ordered_value.ensures.data
