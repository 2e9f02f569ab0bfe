use Rattle.std.proofs.Common.{◌++◌}
use Rattle.std.proofs.lemmas.Result.{on_ok_weaker}
use Rattle.hpr_graph.specs.declared.vertex.Vertex.TheVariants.{Entry}
use Rattle.hpr_drawn.specs.Pictures.{column_line, node_line, nodes_text, row_line}
use Rattle.hpr_drawn.proofs.Texts.{joined}
use Rattle.hpr_drawn.proofs.nodes.put_rows.Goals as goal

pub returns : goal.returns
returns c =
    let o = c.args.out.now.items in
    let nodes = node_line Entry ++ nodes_text c.args.inits.now ++ nodes_text c.args.parts.now ++ nodes_text c.args.finals.now in
    let inits = row_line c.args.inits.now in
    let finals = row_line c.args.finals.now in
    let column = column_line c.args.inits.now c.args.parts.now c.args.finals.now in
    let first = joined o nodes inits _ _ c.in_ok-put_all_nodes.ensures c.in_ok-put_side_by_side.ensures in
    let second = joined o (nodes ++ inits) finals _ _ first c.in_ok-put_side_by_side-2.ensures in
    on_ok_weaker c.put_column.result (λ last. joined o (nodes ++ inits ++ finals) column _ _ second last) c.put_column.ensures
