-- Links put into a graph one after another.
use Rattle.std.proofs.Common.{◌≡◌, ℕ, ◌+◌, ◌<◌, ◌≤◌, suc, false, Result, Err, List, [], ◌∷◌, length, take, get_or, Contains, ◌↔◌, ◌⊎◌, inl, inr, refl, sym, ap, ◌∙◌, subst, sum_by, slice_get, arith}
use Rattle.std.proofs.lemmas.List.{take_all}
use Rattle.std.proofs.lemmas.List.Sums.{sum_by-cons}
use Rattle.hpr_terms.proofs.Facts.{taken_item, in_here}
use Rattle.hpr_graph.specs.declared.link.LinkKind.TheVariants.{Control}
use Rattle.hpr_graph.specs.declared.link.Link.{Link}
use Rattle.hpr_graph.specs.Numbered.{Numbered, HasLink, IsNumbered, row_items, link_count}
use Rattle.hpr_syntax.specs.Tree.{Tree}
use Rattle.hpr_build.specs.declared.error.BuildError.{BuildError}
use Rattle.hpr_build.specs.declared.pushes.NewLink.{NewLink}
use Rattle.hpr_build.specs.Links.{IsLinkOf, HasMoreLinks}
use Rattle.hpr_graph.specs.Graphs.{IsOnce}
use Rattle.hpr_graph.proofs.Lists.{not_before}
use Rattle.hpr_build.specs.Stages.{IsBegun}
use Rattle.hpr_build.proofs.Once.{taken_among}

abbrev pub into : ℕ → Link → NewLink
into to l = record { to = to; link = l }

-- what stands past the end of a list of links
abbrev pub no_link : NewLink
no_link = record { to = 0; link = record { from = 0; kind = Control false } }

same_into : (n : NewLink) (to : ℕ) (l : Link) → to ≡ n.to → l ≡ n.link → n ≡ into to l
same_into n to l a b = λ i. record { to = sym a i; link = sym b i }

module _ (links : List NewLink) (k : ℕ) (n : NewLink) (here : k < length links) (is : n ≡ get_or links k n) where
  pub turn_link : (to : ℕ) (l : Link) (A A' O : Type 0) → A' ↔ (A ⊎ ((to ≡ n.to) × (l ≡ n.link))) → A ↔ (O ⊎ Contains (take k links) (into to l)) → A' ↔ (O ⊎ Contains (take (k + 1) links) (into to l))
  turn_link to l A A' O new old =
      let more = taken_item links k n (into to l) here is in (
        (λ h. elim (new.0 h) [
          | inl a ↦ (elim (old.0 a) [ inl o ↦ inl o | inr t ↦ inr (more.1 (inl t)) ])
          | inr s ↦ inr (more.1 (inr (same_into n to l s.0 s.1)))
        ]),
        (λ h. elim h [
          | inl o ↦ new.1 (inl (old.1 (inl o)))
          | inr t ↦ (elim (more.0 t) [
            | inl was ↦ new.1 (inl (old.1 (inr was)))
            | inr e ↦ new.1 (inr (sym (ap (λ (m : NewLink). m.to) e), sym (ap (λ (m : NewLink). m.link) e)))
          ])
        ]),
      )

  -- what is there after a link more is one of the links
  pub among_links : (to : ℕ) (l : Link) (A A' O : Type 0) → (A' → A ⊎ ((to ≡ n.to) × (l ≡ n.link))) → A ↔ (O ⊎ Contains (take k links) (into to l)) → A' → O ⊎ Contains links (into to l)
  among_links to l A A' O new old h = elim (new h) [
    | inl a ↦ (elim (old.0 a) [ inl o ↦ inl o | inr t ↦ inr (taken_among links k (into to l) t) ])
    | inr s ↦ inr (subst (Contains links) (same_into n to l s.0 s.1) (k, here, sym is))
  ]

  -- the next link isn't there yet
  pub fresh_link : (A O : Type 0) → IsOnce links → (O → ⊥) → A ↔ (O ⊎ Contains (take k links) n) → ¬ A
  fresh_link A O once new old a = elim (old.0 a) [ inl o ↦ new o | inr t ↦ not_before links k n once here is t ]

pub all_links : (links : List NewLink) (k to : ℕ) (l : Link) (A O : Type 0) → length links ≤ k → A ↔ (O ⊎ Contains (take k links) (into to l)) → A ↔ (O ⊎ Contains links (into to l))
all_links links k to l A O end old = subst (λ (ns : List NewLink). A ↔ (O ⊎ Contains ns (into to l))) (take_all k links end) old

module _ (tree : Tree) (inits : List (List ℕ)) (most : ℕ) (g g' : Numbered) (F : ℕ → Link → Type 0) (begun : IsBegun tree inits most g) (same : g'.vertices ≡ g.vertices) (only : (to : ℕ) (l : Link) → HasLink g' to l → HasLink g to l ⊎ F to l)
    (are : (to : ℕ) (l : Link) → F to l → IsLinkOf tree inits to l) where
  links_of : (to : ℕ) (l : Link) → HasLink g' to l → IsLinkOf tree inits to l
  links_of to l h = elim (only to l h) [ inl was ↦ begun.links to l was | inr f ↦ are to l f ]

  pub begun_more : link_count g' ≤ most → IsBegun tree inits most g'
  begun_more room = record { vertices = same ∙ begun.vertices; links = links_of; room = room }

  pub more_links : IsNumbered g' → most < link_count g' → HasMoreLinks tree inits most
  more_links numbered more = record { g = g'; numbered = numbered; vertices = same ∙ begun.vertices; links = links_of; more = more }

-- a graph without links has none
empty_row : (row : List Link) → ((l : Link) → ¬ Contains row l) → length row ≡ 0
empty_row [] none = refl
empty_row (l ∷ row) none = absurd (none l (in_here l row))

empty_rows : (rows : List (List Link)) → ((to : ℕ) (l : Link) → ¬ Contains (row_items (slice_get rows to)) l) → sum_by (λ row. length row) rows ≡ 0
empty_rows [] none = refl
empty_rows (row ∷ rows) none =
    let here : length row ≡ 0 = empty_row row (none 0) in
    let rest : sum_by (λ row. length row) rows ≡ 0 = empty_rows rows (λ to. none (suc to)) in
    omega (arith, here, rest, sum_by-cons (λ (r : List Link). length r) row rows)

pub no_count : (g : Numbered) → ((to : ℕ) (l : Link) → ¬ HasLink g to l) → link_count g ≡ 0
no_count g none = empty_rows g.links none

pub added_link : (g g' : Numbered) (at : ℕ) (k : Link) → HasLink g' at k → ((to : ℕ) (l : Link) → HasLink g to l → HasLink g' to l) → ((to : ℕ) (l : Link) → HasLink g' to l → HasLink g to l ⊎ ((to ≡ at) × (l ≡ k))) → (to : ℕ) (l : Link) → HasLink g' to l ↔ (HasLink g to l ⊎ ((to ≡ at) × (l ≡ k)))
added_link g g' at k there kept only to l = (
  (λ h. only to l h),
  (λ s. elim s [ inl was ↦ kept to l was | inr e ↦ subst (λ (n : ℕ). HasLink g' n l) (sym e.0) (subst (λ (m : Link). HasLink g' at m) (sym e.1) there) ]),
)

-- the error that a `?` hands on
pub same_error : {T : Type 0} (r : Result T BuildError) (y f w : BuildError) → r ≡ Err y → y ≡ f → r ≡ Err w → f ≡ w
same_error r y f w a b e = let t : y ≡ w = cc in sym b ∙ t
