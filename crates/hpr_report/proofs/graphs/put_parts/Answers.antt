use Rattle.std.proofs.Common.{◌≡◌, ◌++◌, ℕ, List, length, map, sym, ap, ap₂, ◌∙◌, codes, decimal}
use Rattle.std.proofs.lemmas.Result.{on_ok_weaker}
use Rattle.hpr_graph.specs.declared.edge.Edge.{Edge}
use Rattle.hpr_graph.specs.InOrder.{edges_of}
use Rattle.hpr_graph.proofs.InOrder.{edges_of_count}
use Rattle.hpr_report.specs.GraphTexts.{vertex_text, edge_text, on_lines}
use Rattle.hpr_report.proofs.Rows.{regroup}
use Rattle.hpr_report.proofs.graphs.put_parts.Goals as goal

pub returns : goal.returns
returns c =
    let g = c.args.of.now.graph.now in
    let es : List Edge = edges_of g in
    let count : c.edge_count.result ≡ length es = c.edge_count.ensures.count ∙ sym (edges_of_count g) in
    let line : c.in_ok-line.line.items ≡ codes "edges " ++ decimal (length es) ++ codes "\n" =
    c.in_ok-line.ensures ∙ ap (λ (n : ℕ). codes "edges " ++ decimal n ++ codes "\n") count in
    let more = c.in_ok-extend_from_slice.ensures.items ∙ ap₂ (λ (x y : List ℕ). x ++ y) c.in_ok-put_texts.ensures (c.deref.ensures.value ∙ line) in
    let grouped = regroup c.args.out.now.items (on_lines (map vertex_text g.vertices)) (codes "edges ") (decimal (length es)) (codes "\n") (on_lines (map edge_text es)) in
    on_ok_weaker c.put_edges.result (λ h. h ∙ ap (λ (x : List ℕ). x ++ on_lines (map edge_text es)) more ∙ grouped) c.put_edges.ensures
