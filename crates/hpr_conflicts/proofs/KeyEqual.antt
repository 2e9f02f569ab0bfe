-- Keys that are equal by their code are the same, and are those of conflicts of one variant with one edge.
use Rattle.std.proofs.Common.{◌≡◌, Bool, true, false, ◌&&◌, refl, sym, ap, ap₂}
use Rattle.std.specs.Prelude.{◌==◌}
use Rattle.std.proofs.lemmas.Bool.{eqb-true, false≢true}
use Rattle.std.specs.Cmp.Lexicographic.{same_text}
use Rattle.hpr_graph.specs.declared.conflict.ManyConflict.{ManyConflict}
use Rattle.hpr_graph.specs.declared.edge.Kind.{Kind}
use Rattle.hpr_graph.specs.declared.edge.Kind.TheVariants as kind
use Rattle.hpr_graph.specs.contracts.vertex.VertexPartialEq.TheImpl as vertex_eqs
use Rattle.hpr_graph.proofs.Indexed.{same_by_eq}
use Rattle.hpr_conflicts.specs.Private.Keys.{key_of, sort_of}
use Rattle.hpr_conflicts.specs.declared.key.Key.{Key}
use Rattle.hpr_conflicts.specs.declared.key.Sort.{Sort}
use Rattle.hpr_conflicts.specs.declared.key.Sort.TheVariants.{Control, Independent, Carried, Order}
use Rattle.hpr_conflicts.specs.contracts.key.KeyPartialEq.TheImpl as eqs
use Rattle.hpr_conflicts.specs.contracts.key.SortPartialEq.TheImpl as sort_eqs

both_true : (a b : Bool) → (a && b) ≡ true → (a ≡ true) × (b ≡ true)
both_true true b e = (refl, e)
both_true false b e = absurd (false≢true e)

same_label : (a b : Bool) → (sort_eqs.ghosts).eq (Control a) (Control b) ≡ true → a ≡ b
same_label true true e = refl
same_label true false e = absurd (false≢true e)
same_label false true e = absurd (false≢true e)
same_label false false e = refl

pub sort_equal : (s t : Sort) → (sort_eqs.ghosts).eq s t ≡ true → s ≡ t
sort_equal (Control a) (Control b) e = ap Control (same_label a b e)
sort_equal (Independent x) (Independent y) e = ap Independent (same_text x y (sym e))
sort_equal (Carried x v) (Carried y w) e =
    let (name, by) = both_true _ ((vertex_eqs.ghosts).eq v w) e in
    ap₂ Carried (same_text x y (sym name)) (same_by_eq v w by)
sort_equal (Order v) (Order w) e = ap Order (same_by_eq v w e)
sort_equal (Control a) (Independent y) e = absurd (false≢true e)
sort_equal (Control a) (Carried y w) e = absurd (false≢true e)
sort_equal (Control a) (Order w) e = absurd (false≢true e)
sort_equal (Independent x) (Control b) e = absurd (false≢true e)
sort_equal (Independent x) (Carried y w) e = absurd (false≢true e)
sort_equal (Independent x) (Order w) e = absurd (false≢true e)
sort_equal (Carried x v) (Control b) e = absurd (false≢true e)
sort_equal (Carried x v) (Independent y) e = absurd (false≢true e)
sort_equal (Carried x v) (Order w) e = absurd (false≢true e)
sort_equal (Order v) (Control b) e = absurd (false≢true e)
sort_equal (Order v) (Independent y) e = absurd (false≢true e)
sort_equal (Order v) (Carried y w) e = absurd (false≢true e)

pub key_equal : (k l : Key) → (eqs.ghosts).eq k l ≡ true → k ≡ l
key_equal k l e =
    let number = k.variant == l.variant in
    let to = (vertex_eqs.ghosts).eq k.to l.to in
    let from = (vertex_eqs.ghosts).eq k.from l.from in
    let (same_number, rest) = both_true number _ e in
    let (same_to, others) = both_true to _ rest in
    let (same_from, same_sort) = both_true from ((sort_eqs.ghosts).eq k.sort l.sort) others in
    let variants : k.variant ≡ l.variant = eqb-true k.variant l.variant same_number in
    let tos : k.to ≡ l.to = same_by_eq k.to l.to same_to in
    let froms : k.from ≡ l.from = same_by_eq k.from l.from same_from in
    let sorts : k.sort ≡ l.sort = sort_equal k.sort l.sort same_sort in
    λ i. record { variant = variants i; to = tos i; from = froms i; sort = sorts i }

sort_once : (k l : Kind) → sort_of k ≡ sort_of l → k ≡ l
sort_once (kind.Control a) (kind.Control b) e = cc
sort_once (kind.Independent x) (kind.Independent y) e = cc
sort_once (kind.Carried x v) (kind.Carried y w) e = cc
sort_once (kind.Order v) (kind.Order w) e = cc
sort_once (kind.Control a) (kind.Independent y) e = cc
sort_once (kind.Control a) (kind.Carried y w) e = cc
sort_once (kind.Control a) (kind.Order w) e = cc
sort_once (kind.Independent x) (kind.Control b) e = cc
sort_once (kind.Independent x) (kind.Carried y w) e = cc
sort_once (kind.Independent x) (kind.Order w) e = cc
sort_once (kind.Carried x v) (kind.Control b) e = cc
sort_once (kind.Carried x v) (kind.Independent y) e = cc
sort_once (kind.Carried x v) (kind.Order w) e = cc
sort_once (kind.Order v) (kind.Control b) e = cc
sort_once (kind.Order v) (kind.Independent y) e = cc
sort_once (kind.Order v) (kind.Carried y w) e = cc

pub alike_by_key : (c d : ManyConflict) → key_of c ≡ key_of d → (c.variant ≡ d.variant) × (c.edge ≡ d.edge)
alike_by_key c d e =
    let tos : c.edge.to ≡ d.edge.to = ap (λ (k : Key). k.to) e in
    let froms : c.edge.from ≡ d.edge.from = ap (λ (k : Key). k.from) e in
    let kinds : c.edge.kind ≡ d.edge.kind = sort_once c.edge.kind d.edge.kind (ap (λ (k : Key). k.sort) e) in
    (ap (λ (k : Key). k.variant) e, λ i. record { to = tos i; from = froms i; kind = kinds i })

pub key_by_alike : (c d : ManyConflict) → c.variant ≡ d.variant → c.edge ≡ d.edge → key_of c ≡ key_of d
key_by_alike c d variants edges = λ i. record { variant = variants i; to = (edges i).to; from = (edges i).from; sort = sort_of (edges i).kind }
