use Rattle.std.proofs.Common.{◌++◌}
use Rattle.std.proofs.lemmas.Result.{on_ok_weaker}
use Rattle.hpr_graph.specs.declared.vertex.Vertex.TheVariants.{Entry}
use Rattle.hpr_drawn.specs.Pictures.{node_line, nodes_text}
use Rattle.hpr_drawn.proofs.Texts.{joined}
use Rattle.hpr_drawn.proofs.nodes.put_all_nodes.Goals as goal

pub returns : goal.returns
returns c =
    let o = c.args.out.now.items in
    let head = node_line Entry in
    let inits = nodes_text c.args.inits.now in
    let parts = nodes_text c.args.parts.now in
    let first = joined o head inits _ _ c.in_ok-put.ensures c.in_ok-put_nodes.ensures in
    let second = joined o (head ++ inits) parts _ _ first c.in_ok-put_nodes-2.ensures in
    on_ok_weaker c.put_nodes-3.result (λ last. joined o (head ++ inits ++ parts) (nodes_text c.args.finals.now) _ _ second last) c.put_nodes-3.ensures
