-- Rows of points, one for each name.
use Rattle.std.proofs.Common.{◌≡◌, ℕ, zero, suc, ◌<◌, ◌≤◌, Some, List, [], ◌∷◌, ◌++◌, Vec, Global, Contains, slice_get, ◌⊎◌, ◌↔◌, inl, inr, refl, sym, ap, ◌∙◌, subst, arith}
use Rattle.std.proofs.lemmas.Bool.{cases_eq}
use Rattle.std.proofs.lemmas.Option.{same_Some}
use Rattle.hpr_terms.proofs.Facts.{in_none, contains_at}
use Rattle.hpr_reach.proofs.Grown.{pushed}
use Rattle.hpr_graph.specs.Graphs.{IsOnce}
use Rattle.hpr_build.specs.Variables.{points_at}
use Rattle.hpr_build.proofs.Once.{once_after}

same_name : {X : Type 0} (names : List X) (i j : ℕ) (x y : X) → i ≡ j → slice_get names i ≡ Some x → slice_get names j ≡ Some y → y ≡ x
same_name {X} names i j x y e a b = same_Some y x (sym b ∙ sym (ap (slice_get names) e) ∙ a)

module _ {X : Type 0} (names : List X) (once : IsOnce names) (name : X) (point at : ℕ) (found : slice_get names at ≡ Some name) (rows rows' : List (Vec ℕ Global))
    (here : points_at rows' at ≡ points_at rows at ++ point ∷ []) (others : (i : ℕ) → ¬ (i ≡ at) → points_at rows' i ≡ points_at rows i) where
  row_here : (i : ℕ) → i ≡ at → points_at rows' i ≡ points_at rows i ++ point ∷ []
  row_here i e = ap (points_at rows') e ∙ here ∙ ap (λ (k : ℕ). points_at rows k ++ point ∷ []) (sym e)

  other_name : (i : ℕ) (x : X) → slice_get names i ≡ Some x → ¬ (i ≡ at) → ¬ (name ≡ x)
  other_name i x get ne e = ne (once i at x get (found ∙ ap (λ (y : X). Some y) e))

  pub pushed_rows : (i : ℕ) (x : X) → slice_get names i ≡ Some x → (p : ℕ) → Contains (points_at rows' i) p ↔ (Contains (points_at rows i) p ⊎ ((name ≡ x) × (point ≡ p)))
  pushed_rows i x get p = elim (cases_eq i at) [
    | inl e ↦ (let is : name ≡ x = same_name names i at x name e get found in
        let more = pushed (points_at rows i) point p in
        rw (row_here i e) (
          (λ h. elim (more.0 h) [ inl was ↦ inl was | inr same ↦ inr (is, same) ]),
          (λ h. elim h [ inl was ↦ more.1 (inl was) | inr k ↦ more.1 (inr k.1) ]),
        ))
    | inr ne ↦ rw (others i ne) ((λ h. inl h), (λ h. elim h [ inl was ↦ was | inr k ↦ absurd (other_name i x get ne k.0) ]))
  ]

  pub pushed_once : (i : ℕ) (x : X) → slice_get names i ≡ Some x → IsOnce (points_at rows i) → (name ≡ x → ¬ Contains (points_at rows i) point) → IsOnce (points_at rows' i)
  pushed_once i x get row new = elim (cases_eq i at) [
    | inl e ↦ once_after (points_at rows i) (points_at rows' i) point row (new (same_name names i at x name e get found)) (row_here i e)
    | inr ne ↦ subst (λ (ps : List ℕ). IsOnce ps) (sym (others i ne)) row
  ]

-- a name without a row
pub unpushed_rows : {X : Type 0} (names : List X) (name : X) (point : ℕ) (rows : List (Vec ℕ Global)) → ¬ Contains names name → (i : ℕ) (x : X) → slice_get names i ≡ Some x
    → (p : ℕ) → Contains (points_at rows i) p ↔ (Contains (points_at rows i) p ⊎ ((name ≡ x) × (point ≡ p)))
unpushed_rows {X} names name point rows none i x get p = ((λ h. inl h), (λ h. elim h [ inl was ↦ was | inr k ↦ absurd (none (subst (Contains names) (sym k.0) (contains_at names i x get))) ]))

pub no_points : (P : ℕ → Type 0) (ps : List ℕ) (p : ℕ) → ps ≡ [] → Contains ps p ↔ ((p < 0) × P p)
no_points P ps p none = (
  (λ h. absurd (in_none p (subst (λ (qs : List ℕ). Contains qs p) none h))),
  (λ (l, h). absurd (omega (arith, l))),
)

pub once_none : (ps : List ℕ) → ps ≡ [] → IsOnce ps
once_none ps none i j x a b = let no : slice_get [] i ≡ Some x = sym (ap (λ (qs : List ℕ). slice_get qs i) none) ∙ a in cc

pub all_points : (P : ℕ → Type 0) (n m p : ℕ) (A : Type 0) → m ≤ n → (P p → p < m) → A ↔ ((p < n) × P p) → A ↔ P p
all_points P n m p A l within is = ((λ h. (is.0 h).1), (λ h. is.1 (let k = within h in omega (arith, k, l), h)))

-- the rows when all points have come by
pub whole_rows : (P : ℕ → List ℕ → Type 0) (names : List (List ℕ)) (rows : List (Vec ℕ Global)) (n m : ℕ) → m ≤ n → ((p : ℕ) (x : List ℕ) → P p x → p < m)
    → ((i : ℕ) (x : List ℕ) → slice_get names i ≡ Some x → (p : ℕ) → Contains (points_at rows i) p ↔ ((p < n) × P p x)) → (i : ℕ) (x : List ℕ) → slice_get names i ≡ Some x → (p : ℕ) → Contains (points_at rows i) p ↔ P p x
whole_rows P names rows n m l within are i x get p = all_points (λ q. P q x) n m p (Contains (points_at rows i) p) l (within p x) (are i x get p)

-- an empty row more
pub rows_blank : (rows rows' : List (Vec ℕ Global)) (row : Vec ℕ Global) → row.items ≡ [] → rows' ≡ rows ++ row ∷ [] → ((i : ℕ) → points_at rows i ≡ []) → (i : ℕ) → points_at rows' i ≡ []
rows_blank rows rows' row none is before i = ap (λ (rs : List (Vec ℕ Global)). points_at rs i) is ∙ go rows i before
  where
    go : (rs : List (Vec ℕ Global)) (k : ℕ) → ((j : ℕ) → points_at rs j ≡ []) → points_at (rs ++ row ∷ []) k ≡ []
    go [] zero b = none
    go [] (suc k) b = refl
    go (r ∷ rs) zero b = b 0
    go (r ∷ rs) (suc k) b = go rs k (λ j. b (suc j))
