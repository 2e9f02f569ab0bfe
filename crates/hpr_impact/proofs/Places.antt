-- Numbers that ascend, and their places.
use Rattle.std.proofs.Common.{◌≡◌, ℕ, Result, Ok, Err, MatchResult, ◌<◌, ◌≤◌, inl, inr, Some, List, length, get_or, Contains, slice_get, ap, ◌∙◌, arith}
use Rattle.std.specs.declared.cmp.Ordering.TheVariants.{Less, Equal, Greater}
use Rattle.std.specs.Cmp.{nat_cmp_is}
use Rattle.std.specs.List.Sorted.{IsBinarySearchResult}
use Rattle.std.specs.Ordering.{nat_cmp}
use Rattle.std.proofs.lemmas.Bool.{cases_eq, cases_order}
use Rattle.std.proofs.lemmas.List.Sorted.{searched}
use Rattle.std.proofs.lemmas.Option.{slice_get-get_or, get_or_from_slice_get}
use Rattle.hpr_graph.specs.InOrder.{Ascends}

less_from : (x y : ℕ) → nat_cmp x y ≡ Less → x < y
less_from x y is = elim (cases_order x y) [
  | inl e ↦ absurd (let same : Equal ≡ nat_cmp x y = nat_cmp_is x y Equal e in let both : Equal ≡ Less = same ∙ is in cc)
  | inr (inl l) ↦ l
  | inr (inr l) ↦ absurd (let same : Greater ≡ nat_cmp x y = nat_cmp_is x y Greater l in let both : Greater ≡ Less = same ∙ is in cc)
]

module _ (xs : List ℕ) (up : Ascends nat_cmp xs) where
  pub places_rise : (i j x y : ℕ) → i < j → slice_get xs i ≡ Some x → slice_get xs j ≡ Some y → x < y
  places_rise i j x y l at_i at_j = less_from x y (up i j x y l at_i at_j)

  rise : (i j : ℕ) → i ≤ j → j < length xs → get_or xs i 0 ≤ get_or xs j 0
  rise i j l h = elim (cases_eq i j) [
    | inl e ↦ (let same : get_or xs i 0 ≡ get_or xs j 0 = ap (λ (k : ℕ). get_or xs k 0) e in omega (arith, same))
    | inr ne ↦
        (let less = places_rise i j (get_or xs i 0) (get_or xs j 0) (omega (arith, l, ne)) (slice_get-get_or xs i 0 (omega (arith, l, h))) (slice_get-get_or xs j 0 h) in omega (arith, less))
  ]

  -- a number stands at one place
  pub one_place : (i j x : ℕ) → slice_get xs i ≡ Some x → slice_get xs j ≡ Some x → i ≡ j
  one_place i j x a b = elim (cases_order i j) [
    | inl e ↦ e
    | inr (inl l) ↦ absurd (let less = places_rise i j x x l a b in omega (arith, less))
    | inr (inr l) ↦ absurd (let less = places_rise j i x x l b a in omega (arith, less))
  ]

  -- what a search for a listed number finds
  pub place_found : (n : ℕ) (r : Result ℕ ℕ) → Contains xs n → IsBinarySearchResult (λ y. nat_cmp y n) xs r → MatchResult r (λ i. slice_get xs i ≡ Some n) (λ i. ⊥)
  place_found n (Ok i) has found =
      let (low, is) = searched xs n (Ok i) found rise in
      slice_get-get_or xs i 0 low ∙ ap Some is
  place_found n (Err i) (k, within, is) found =
      let (low, before, after) = searched xs n (Err i) found rise in
      let here : get_or xs k 0 ≡ n = get_or_from_slice_get xs k (get_or xs k n) 0 (slice_get-get_or xs k n within) ∙ is in
      elim (cases_order k i) [
        | inl e ↦ (let more = after k (omega (arith, e)) within in omega (arith, more, here))
        | inr (inl l) ↦ (let less = before k l in omega (arith, less, here))
        | inr (inr l) ↦ (let more = after k (omega (arith, l)) within in omega (arith, more, here))
      ]
