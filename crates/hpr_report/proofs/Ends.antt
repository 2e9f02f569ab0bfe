-- An edge that is put piece by piece.
use Rattle.std.proofs.Common.{◌≡◌, ℕ, List, ◌++◌, Result, Ok, Err, OnOk, codes, ap, sym, ◌∙◌, append_assoc}
use Rattle.std.proofs.lemmas.List.{append-nil}
use Rattle.hpr_graph.specs.declared.edge.Edge.{Edge}
use Rattle.hpr_graph.specs.declared.edge.Kind.{Kind}
use Rattle.hpr_graph.specs.declared.edge.Kind.TheVariants.{Control, Independent, Carried, Order}
use Rattle.hpr_report.specs.EdgeParts.{kind_head, kind_tail}
use Rattle.hpr_report.specs.GraphTexts.{edge_text, kind_text, vertex_text}

-- what is put round the ends of an edge makes its text
round : (k : Kind) (ends : List ℕ) → kind_head k ++ ends ++ kind_tail k ≡ kind_text k ends
round (Control label) ends = append-nil _
round (Independent x) ends = append-nil _
round (Carried x w) ends = sym (append_assoc (kind_head (Carried x w) ++ ends) (codes " by ") (vertex_text w))
round (Order u) ends = sym (append_assoc (kind_head (Order u) ++ ends) (codes " for ") (vertex_text u))

pub edge_put : (old head from to new : List ℕ) (e : Edge) → head ≡ old ++ kind_head e.kind → from ≡ head ++ vertex_text e.from → to ≡ from ++ (codes " -> " ++ vertex_text e.to)
    → new ≡ to ++ kind_tail e.kind → new ≡ old ++ edge_text e
edge_put old head from to new e h f t n =
    let first = kind_head e.kind in
    let last = kind_tail e.kind in
    let ends = vertex_text e.from ++ codes " -> " ++ vertex_text e.to in
    let both : to ≡ head ++ ends =
    t ∙ ap (λ x. x ++ (codes " -> " ++ vertex_text e.to)) f ∙ append_assoc head (vertex_text e.from) (codes " -> " ++ vertex_text e.to)
    ∙ ap (λ x. head ++ x) (sym (append_assoc (vertex_text e.from) (codes " -> ") (vertex_text e.to))) in
    n ∙ ap (λ x. x ++ last) (both ∙ ap (λ x. x ++ ends) h ∙ append_assoc old first ends) ∙ append_assoc old (first ++ ends) last ∙ ap (λ x. old ++ x) (round e.kind ends)

-- what follows where something succeeds
pub on_ok : {T E P Q : Type 0} (r : Result T E) → (P → Q) → OnOk r P → OnOk r Q
on_ok (Ok x) f h = f h
on_ok (Err e) f h = tt
