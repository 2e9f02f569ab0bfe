-- The rows of the targets of edges, an edge more at a time.
use Rattle.std.proofs.Common.{◌≡◌, ℕ, ◌+◌, ◌<◌, ◌≤◌, ◌↔◌, ◌⊎◌, inl, inr, List, [], ◌∷◌, length, take, get_or, Contains, refl, sym, ap, ◌∙◌, subst, arith}
use Rattle.std.proofs.lemmas.Bool.{cases_eq}
use Rattle.std.proofs.lemmas.List.{take_all}
use Rattle.std.proofs.lemmas.Option.{slice_get_within}
use Rattle.hpr_search.specs.Rows.{numbers_at, IsPushed}
use Rattle.hpr_graph.specs.declared.link.Link.{Link}
use Rattle.hpr_graph.specs.Numbered.{Numbered, IsLink, IsNumbered, row_of}
use Rattle.hpr_graph.proofs.Lists.{in_none, in_cons, in_here, in_taken}
use Rattle.hpr_slice.specs.Neighbours.{Follows, HasSource, AreTargets, IsPushedFrom}

-- one link
one_source : (l : Link) (from : ℕ) → HasSource (l ∷ []) from ↔ (Follows l.kind × (l.from ≡ from))
one_source l from = (
  λ (m, there, follows, is). elim (in_cons l m [] there) [
    | inl e ↦ subst (λ (x : Link). Follows x.kind × (x.from ≡ from)) (sym e) (follows, is)
    | inr none ↦ absurd (in_none m none)
  ],
  λ (follows, is). (l, in_here l [], follows, is),
)

pub pushed_one : (old new : List (List ℕ)) (l : Link) (n : ℕ) → Follows l.kind → IsPushed old l.from n new → IsPushedFrom old (l ∷ []) n new
pushed_one old new l n follows more from to = (
  λ h. elim ((more from to).0 h) [ inl o ↦ inl o | inr (same, e) ↦ inr ((one_source l from).1 (follows, sym same), e) ],
  λ h. elim h [
    | inl o ↦ (more from to).1 (inl o)
    | inr (has, e) ↦ (more from to).1 (inr (sym ((one_source l from).0 has).1, e))
  ],
)

more_source : (links : List Link) (i from : ℕ) (d : Link) → i < length links → HasSource (take (i + 1) links) from ↔ (HasSource (take i links) from ⊎ HasSource (get_or links i d ∷ []) from)
more_source links i from d k = (
  λ (l, there, follows, is). elim ((in_taken links i d l k).0 there) [
    | inl was ↦ inl (l, was, follows, is)
    | inr e ↦ inr ((one_source (get_or links i d) from).1 (subst (λ (x : Link). Follows x.kind × (x.from ≡ from)) (sym e) (follows, is)))
  ],
  λ h. elim h [
    | inl (l, was, follows, is) ↦ (l, (in_taken links i d l k).1 (inl was), follows, is)
    | inr one ↦ (let (follows, is) = (one_source (get_or links i d) from).0 one in (get_or links i d, (in_taken links i d (get_or links i d) k).1 (inr refl), follows, is))
  ],
)

pub pushed_next : (d : Link) (old now new : List (List ℕ)) (links : List Link) (i n : ℕ) → i < length links
    → IsPushedFrom old (take i links) n now → IsPushedFrom now (get_or links i d ∷ []) n new → IsPushedFrom old (take (i + 1) links) n new
pushed_next d old now new links i n k before more from to = (
  λ h. elim ((more from to).0 h) [
    | inl was ↦ elim ((before from to).0 was) [ inl o ↦ inl o | inr (has, e) ↦ inr ((more_source links i from d k).1 (inl has), e) ]
    | inr (one, e) ↦ inr ((more_source links i from d k).1 (inr one), e)
  ],
  λ h. elim h [
    | inl o ↦ (more from to).1 (inl ((before from to).1 (inl o)))
    | inr (has, e) ↦ elim ((more_source links i from d k).0 has) [
      | inl was ↦ (more from to).1 (inl ((before from to).1 (inr (was, e))))
      | inr one ↦ (more from to).1 (inr (one, e))
    ]
  ],
)

pub pushed_whole : (old new : List (List ℕ)) (links : List Link) (i n : ℕ) → length links ≤ i → IsPushedFrom old (take i links) n new → IsPushedFrom old links n new
pushed_whole old new links i n l all = subst (λ (xs : List Link). IsPushedFrom old xs n new) (take_all i links l) all

-- the rows by the edges into the vertices up to one
pub record AreTargetsTo (g : Numbered) (rows : List (List ℕ)) (at : ℕ) : Type 0 where
  pub count : length rows ≡ length g.vertices
  pub exact : (from to : ℕ) → Contains (numbers_at rows from) to ↔ ((to < at) × HasSource (row_of g to) from)

pub targets_none : (g : Numbered) (rows : List (List ℕ)) → length rows ≡ length g.vertices → ((at n : ℕ) → ¬ Contains (numbers_at rows at) n) → AreTargetsTo g rows 0
targets_none g rows count none = record { count = count; exact = λ from to. (λ h. absurd (none from to h), λ h. absurd (omega (arith, h.0))) }

pub targets_more : (g : Numbered) (rows rows' : List (List ℕ)) (at : ℕ) (links : List Link) → links ≡ row_of g at → AreTargetsTo g rows at → length rows' ≡ length rows → IsPushedFrom rows links at rows' → AreTargetsTo g rows' (at + 1)
targets_more g rows rows' at links is t count pushed = record {
  count = count ∙ t.count;
  exact = λ from to. (
    λ h. elim ((pushed from to).0 h) [
      | inl was ↦ (let (l, there) = (t.exact from to).0 was in (omega (arith, l), there))
      | inr (has, e) ↦ (omega (arith, e), subst (λ (row : List Link). HasSource row from) (is ∙ ap (row_of g) (sym e)) has)
    ],
    λ (l, there). elim (cases_eq to at) [
      | inl e ↦ (pushed from to).1 (inr (subst (λ (row : List Link). HasSource row from) (ap (row_of g) e ∙ sym is) there, e))
      | inr ne ↦ (pushed from to).1 (inl ((t.exact from to).1 (omega (arith, l, ne), there)))
    ],
  );
}

pub targets_whole : (g : Numbered) → IsNumbered g → (rows : List (List ℕ)) (at : ℕ) → length g.vertices ≤ at → AreTargetsTo g rows at → AreTargets g rows
targets_whole g k rows at l t = record {
  count = t.count;
  exact = λ from to. (
    λ h. ((t.exact from to).0 h).1,
    λ (m, has, follows, from_is).
        (let (e, is) = k.links to m has in
        let w = slice_get_within g.vertices to e.to is.0 in
        (t.exact from to).1 (omega (arith, w, l), (m, has, follows, from_is))),
  );
}

-- the source of a link is a vertex
pub from_within : (g : Numbered) (to : ℕ) (l : Link) → IsLink g to l → l.from < length g.vertices
from_within g to l (e, is) = slice_get_within g.vertices l.from e.from is.1
