-- The lines of the edges of a graph, row by row.
use Rattle.std.proofs.Common.{◌≡◌, ℕ, ◌+◌, ◌<◌, ◌≤◌, List, [], ◌++◌, length, map, sym, ap, refl, ◌∙◌, append_assoc}
use Rattle.std.proofs.lemmas.Grind.{flat_map-append}
use Rattle.std.proofs.lemmas.List.{map-id, append-nil}
use Rattle.hpr_graph.specs.declared.edge.Edge.{Edge}
use Rattle.hpr_graph.specs.Numbered.{Numbered, IsNumbered}
use Rattle.hpr_graph.specs.InOrder.{row_edges}
use Rattle.hpr_json.proofs.Rows.{edges_past, values_more, values_done}
use Rattle.hpr_drawn.specs.declared.dot.LeftOut.{LeftOut}
use Rattle.hpr_drawn.specs.Pictures.{drawn_line, edges_text}

row_first : (g : Numbered) (to : ℕ) → IsNumbered g → to < length g.vertices → edges_past g to ≡ row_edges g to ++ edges_past g (to + 1)
row_first g to k below =
    let same = λ (es : List Edge). map (λ (e : Edge). e) es in
    let rows = values_more (λ (e : Edge). e) g to [] (same (row_edges g to)) (same (edges_past g to)) k below refl refl in
    let row = ap (λ (es : List Edge). es ++ same (edges_past g (to + 1))) (map-id (row_edges g to)) in
    let rest = ap (λ (es : List Edge). row_edges g to ++ es) (map-id (edges_past g (to + 1))) in
    sym (map-id (edges_past g to)) ∙ sym rows ∙ row ∙ rest

none_past : (g : Numbered) (to : ℕ) → IsNumbered g → length g.vertices ≤ to → edges_past g to ≡ []
none_past g to k past =
    let same = map (λ (e : Edge). e) (edges_past g to) in
    sym (map-id (edges_past g to)) ∙ sym (values_done (λ (e : Edge). e) g to [] same k past refl)

text_append : (out : LeftOut) (es fs : List Edge) → edges_text out (es ++ fs) ≡ edges_text out es ++ edges_text out fs
text_append out es fs = flat_map-append (drawn_line out) es fs

pub text_more : (out : LeftOut) (g : Numbered) (to : ℕ) (old new all : List ℕ) → IsNumbered g → to < length g.vertices
    → old ++ edges_text out (edges_past g to) ≡ all
    → new ≡ old ++ edges_text out (row_edges g to) → new ++ edges_text out (edges_past g (to + 1)) ≡ all
text_more out g to old new all k below so_far is =
    let row = edges_text out (row_edges g to) in
    let rest = edges_text out (edges_past g (to + 1)) in
    let first = ap (edges_text out) (row_first g to k below) ∙ text_append out (row_edges g to) (edges_past g (to + 1)) in
    ap (λ x. x ++ rest) is ∙ append_assoc old row rest ∙ ap (λ x. old ++ x) (sym first) ∙ so_far

pub text_done : (out : LeftOut) (g : Numbered) (to : ℕ) (old all : List ℕ) → IsNumbered g → length g.vertices ≤ to
    → old ++ edges_text out (edges_past g to) ≡ all → old ≡ all
text_done out g to old all k past so_far =
    let none = ap (λ (es : List Edge). old ++ edges_text out es) (none_past g to k past) in
    sym (append-nil old) ∙ sym none ∙ so_far
