use Rattle.std.proofs.Common.{Contains}
use Rattle.hpr_graph.specs.Order.{vertex_cmp}
use Rattle.hpr_verify.proofs.Differences.{alike_when, held_when}
use Rattle.hpr_verify.proofs.EdgesApart.{same_numbers, vertices_read}
use Rattle.hpr_verify.proofs.difference.difference_in_order.Goals as goal

pub edge_difference-requires-clause-vertices : goal.edge_difference-requires-clause-vertices
edge_difference-requires-clause-vertices c =
    let xs = c.vertices.result.now in
    let ys = c.vertices-2.result.now in
    same_numbers c.args.offered.now c.args.merged.now c.requires.offered c.requires.merged
    (alike_when vertex_cmp (Contains c.args.offered.now.vertices) (Contains c.args.merged.now.vertices) c.in_ok-vertex.field-0 c.in-None.is
    (vertices_read xs ys c.args.offered.now.vertices c.args.merged.now.vertices c.in_ok-vertex.field-0 c.vertices.ensures.vertices c.vertices-2.ensures.vertices c.in_ok-vertex.ensures))

pub returns-in-Some : goal.returns-in-Some
returns-in-Some c =
    let xs = c.vertices.result.now in
    let ys = c.vertices-2.result.now in
    held_when vertex_cmp (Contains c.args.offered.now.vertices) (Contains c.args.merged.now.vertices) c.in_ok-vertex.field-0 c.in-Some.vertex c.in-Some.holder c.in-Some.is
    (vertices_read xs ys c.args.offered.now.vertices c.args.merged.now.vertices c.in_ok-vertex.field-0 c.vertices.ensures.vertices c.vertices-2.ensures.vertices c.in_ok-vertex.ensures)
