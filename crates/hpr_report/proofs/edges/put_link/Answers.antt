use Rattle.std.proofs.Common.{◌≡◌, ◌∙◌, ℕ, List, ◌++◌, codes, ap, subst}
use Rattle.hpr_graph.specs.declared.vertex.Vertex.{Vertex}
use Rattle.hpr_graph.specs.declared.edge.Edge.{Edge}
use Rattle.hpr_graph.specs.InOrder.{edge_of, kind_of}
use Rattle.hpr_report.specs.EdgeParts.{kind_head}
use Rattle.hpr_report.specs.GraphTexts.{vertex_text}
use Rattle.hpr_report.proofs.Ends.{edge_put, on_ok}
use Rattle.hpr_report.proofs.edges.put_link.Goals as goal

pub returns : goal.returns
returns c =
    let link = c.args.link in
    let e : Edge = edge_of c.args.of.now.graph.now.vertices c.args.to link in
    let head : c.put_head.new.out.items ≡ c.args.out.now.items ++ kind_head e.kind =
    subst (λ (vs : List Vertex). c.put_head.new.out.items ≡ c.args.out.now.items ++ kind_head (kind_of vs link.kind link.from)) c.vertices.ensures.vertices c.in_ok-put_head.ensures in
    let from : c.put.new.out.items ≡ c.put_head.new.out.items ++ vertex_text e.from = c.in_ok-put.ensures ∙ ap (λ (t : List ℕ). c.put_head.new.out.items ++ t) c.text_at.ensures in
    let to : c.put_both.new.out.items ≡ c.put.new.out.items ++ (codes " -> " ++ vertex_text e.to) =
    c.in_ok-put_both.ensures ∙ ap (λ (t : List ℕ). c.put.new.out.items ++ (codes " -> " ++ t)) c.text_at-2.ensures in
    on_ok c.put_tail.result (edge_put c.args.out.now.items c.put_head.new.out.items c.put.new.out.items c.put_both.new.out.items c.put_tail.new.out.items e head from to) c.put_tail.ensures
