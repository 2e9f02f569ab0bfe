-- Rows of the points that use a name.
use Rattle.std.proofs.Common.{◌≡◌, ℕ, ◌<◌, Some, List, length, get_or, Contains, slice_get, ◌↔◌, ◌⊎◌, inl, inr, sym, ap, ◌∙◌, subst}
use Rattle.std.specs.Cmp.Lexicographic.{slice_cmp}
use Rattle.std.specs.List.Sorted.{IsStrictlySortedBy}
use Rattle.std.specs.Ordering.{nat_cmp}
use Rattle.std.specs.declared.cmp.Ordering.TheVariants.{Less, Equal}
use Rattle.std.proofs.lemmas.Bool.{cases_order}
use Rattle.std.proofs.lemmas.Cmp.{nat_list_cmp_total, tied_itself}
use Rattle.std.proofs.lemmas.Map.Keys.{Less-from_sorted}
use Rattle.std.proofs.lemmas.Option.{same_Some, slice_get_within, get_or_from_slice_get}
use Rattle.hpr_terms.proofs.Facts.{contains_at}
use Rattle.hpr_search.specs.Rows.{numbers_at, IsPushed}

apart : (a b x : List ℕ) → a ≡ x → b ≡ x → ¬ (slice_cmp nat_cmp a b ≡ Less)
apart a b x e f less =
    let tied : slice_cmp nat_cmp x x ≡ Equal = tied_itself nat_list_cmp_total x in
    let same : slice_cmp nat_cmp a b ≡ slice_cmp nat_cmp x x = ap (λ (y : List ℕ). slice_cmp nat_cmp y b) e ∙ ap (slice_cmp nat_cmp x) f in
    cc

module _ (names : List (List ℕ)) (sorted : IsStrictlySortedBy (slice_cmp nat_cmp) names) where
  -- a name has one place
  one_place : (i j : ℕ) (x : List ℕ) → slice_get names i ≡ Some x → slice_get names j ≡ Some x → i ≡ j
  one_place i j x a b =
      let li : i < length names = slice_get_within names i x a in
      let lj : j < length names = slice_get_within names j x b in
      let ei : get_or names i x ≡ x = get_or_from_slice_get names i x x a in
      let ej : get_or names j x ≡ x = get_or_from_slice_get names j x x b in
      elim (cases_order i j) [
        | inl e ↦ e
        | inr (inl l) ↦ absurd (apart (get_or names i x) (get_or names j x) x ei ej (Less-from_sorted (slice_cmp nat_cmp) names i j x sorted l lj))
        | inr (inr l) ↦ absurd (apart (get_or names j x) (get_or names i x) x ej ei (Less-from_sorted (slice_cmp nat_cmp) names j i x sorted l li))
      ]

  module _ (name : List ℕ) (point at : ℕ) (found : slice_get names at ≡ Some name) (old new : List (List ℕ)) (pushed : IsPushed old at point new) where
    pub pushed_row : (i : ℕ) (x : List ℕ) → slice_get names i ≡ Some x → (p : ℕ)
        → Contains (numbers_at new i) p ↔ (Contains (numbers_at old i) p ⊎ ((name ≡ x) × (point ≡ p)))
    pushed_row i x get p = (
      (λ h. elim ((pushed i p).0 h) [
        | inl was ↦ inl was
        | inr (here, is) ↦ inr (same_Some name x (sym found ∙ ap (slice_get names) (sym here) ∙ get), sym is)
      ]),
      (λ h. elim h [
        | inl was ↦ (pushed i p).1 (inl was)
        | inr (same, is) ↦ (pushed i p).1 (inr (one_place i at x get (found ∙ ap (λ (y : List ℕ). Some y) same), sym is))
      ]),
    )

pub unpushed_row : (names : List (List ℕ)) (name : List ℕ) (point : ℕ) (rows : List (List ℕ)) → ¬ Contains names name → (i : ℕ) (x : List ℕ)
    → slice_get names i ≡ Some x
    → (p : ℕ) → Contains (numbers_at rows i) p ↔ (Contains (numbers_at rows i) p ⊎ ((name ≡ x) × (point ≡ p)))
unpushed_row names name point rows none i x get p = (
  (λ h. inl h),
  (λ h. elim h [ inl was ↦ was | inr (same, is) ↦ absurd (none (subst (Contains names) (sym same) (contains_at names i x get))) ]),
)
