-- The sources of the links of a row.
use Rattle.std.proofs.Common.{◌≡◌, ℕ, ◌<◌, ◌↔◌, ◌⊎◌, inl, inr, Bool, true, false, if◌then◌else◌, List, [], ◌∷◌, length, All, get_or, Contains, refl, sym, ap, ◌∙◌, subst, arith}
use Rattle.std.proofs.lemmas.List.Elements.{Contains-get_or}
use Rattle.std.proofs.lemmas.Option.{slice_get_within}
use Rattle.hpr_graph.specs.declared.link.Link.{Link}
use Rattle.hpr_graph.specs.Numbered.{Numbered, IsNumbered, row_of}
use Rattle.hpr_graph.proofs.Lists.{in_none, in_cons, in_here, in_later}
use Rattle.hpr_slice.specs.Neighbours.{follows, Follows, HasSource, sources_of, sources_at}

has_later : (l : Link) (links : List Link) (n : ℕ) → HasSource links n → HasSource (l ∷ links) n
has_later l links n (m, has, kind, from) = (m, in_later l m links has, kind, from)

source_here : (l : Link) (links : List Link) (n : ℕ) (b : Bool) → follows l.kind ≡ b → (Contains (sources_of links) n → HasSource links n)
    → Contains (if b then l.from ∷ sources_of links else sources_of links) n → HasSource (l ∷ links) n
source_here l links n true e more there = elim (in_cons l.from n (sources_of links) there) [
  | inl is ↦ (l, in_here l links, e, is)
  | inr later ↦ has_later l links n (more later)
]
source_here l links n false e more there = has_later l links n (more there)

has_source : (links : List Link) (n : ℕ) → Contains (sources_of links) n → HasSource links n
has_source [] n h = absurd (in_none n h)
has_source (l ∷ links) n h = source_here l links n (follows l.kind) refl (has_source links n) h

put_here : (m : Link) (links : List Link) (l : Link) (b : Bool) → follows m.kind ≡ b → Follows l.kind → (m ≡ l) ⊎ Contains links l → (Contains links l → Contains (sources_of links) l.from)
    → Contains (if b then m.from ∷ sources_of links else sources_of links) l.from
put_here m links l true e kind (inl is) more = subst (λ (x : Link). Contains (m.from ∷ sources_of links) x.from) is (in_here m.from (sources_of links))
put_here m links l true e kind (inr later) more = in_later m.from l.from (sources_of links) (more later)
put_here m links l false e kind (inl is) more = let both : true ≡ false = sym kind ∙ ap (λ (x : Link). follows x.kind) (sym is) ∙ e in absurd cc
put_here m links l false e kind (inr later) more = more later

put_source : (links : List Link) (l : Link) → Contains links l → Follows l.kind → Contains (sources_of links) l.from
put_source [] l has kind = absurd (in_none l has)
put_source (m ∷ links) l has kind = put_here m links l (follows m.kind) refl kind (in_cons m l links has) (λ later. put_source links l later kind)

pub sources_exact : (links : List Link) (n : ℕ) → Contains (sources_of links) n ↔ HasSource links n
sources_exact links n = (
  λ h. has_source links n h,
  λ (l, has, kind, from). subst (Contains (sources_of links)) from (put_source links l has kind),
)

pub sources_within : (g : Numbered) → IsNumbered g → (to : ℕ) → All (λ n. n < length g.vertices) (sources_at g to)
sources_within g k to i d l =
    let (m, has, kind, from) = has_source (row_of g to) (get_or (sources_at g to) i d) (Contains-get_or (sources_at g to) i d l) in
    let (e, is) = k.links to m has in
    omega (arith, slice_get_within g.vertices m.from e.from is.1, from)
