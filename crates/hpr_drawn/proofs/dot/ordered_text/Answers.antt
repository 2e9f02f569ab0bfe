use Rattle.std.proofs.Common.{◌++◌, ℕ, List, ap, codes, ◌∙◌}
use Rattle.hpr_graph.specs.declared.vertex.Vertex.{Vertex}
use Rattle.hpr_graph.specs.InOrder.{edges_of}
use Rattle.hpr_drawn.specs.Pictures.{dot_text, edges_text, looks, parts_of, vertices_text}
use Rattle.hpr_drawn.proofs.Texts.{joined}
use Rattle.hpr_drawn.proofs.dot.ordered_text.Goals as goal

pub returns : goal.returns
returns c =
    let g = c.args.graph.now in
    let ps = parts_of c.args.program.now in
    let o = c.new-out.result.items in
    let head = codes "digraph {\n" ++ looks in
    let vertices = vertices_text ps g.vertices in
    let edges = edges_text c.args.left_out (edges_of g) in
    let after_head = c.put.new.out.items in
    let put_vertices = c.in_ok-put_vertices.ensures ∙ ap (λ (vs : List Vertex). after_head ++ vertices_text ps vs) c.vertices.ensures.vertices in
    let first = joined o head vertices _ _ c.in_ok-put.ensures put_vertices in
    let second = joined o (head ++ vertices) edges _ _ first c.in_ok-put_edges.ensures in
    let third = joined o (head ++ vertices ++ edges) (codes "}\n") _ _ second c.in_ok-put-2.ensures in
    third ∙ ap (λ (x : List ℕ). x ++ dot_text c.args.left_out ps g.vertices (edges_of g)) c.new-out.ensures.items
