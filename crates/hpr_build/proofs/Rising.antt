-- Numbers that ascend.
use Rattle.std.proofs.Common.{◌≡◌, ℕ, zero, suc, Result, Ok, Err, MatchResult, ◌<◌, ◌≤◌, List, length, take, get_or, Contains, inl, inr, sym, ap, ◌∙◌, subst, add-one, arith, length-take}
use Rattle.std.specs.List.Sorted.{IsStrictlyIncreasing, IsBinarySearchResult}
use Rattle.std.specs.Ordering.{nat_cmp}
use Rattle.std.proofs.lemmas.Bool.{cases_eq, cases_lt, cases_order}
use Rattle.std.proofs.lemmas.List.{get_or-take, get_or_default}
use Rattle.std.proofs.lemmas.List.Sorted.{searched}
use Rattle.std.proofs.lemmas.Option.{slice_get_within, get_or_from_slice_get}
use Rattle.hpr_graph.specs.Graphs.{IsOnce}
use Rattle.hpr_build.specs.declared.places.Span.{Span}
use Rattle.hpr_build.specs.Places.{IsAmong}

module _ (xs : List ℕ) (rises : IsStrictlyIncreasing xs) where
  pub rising : (i j : ℕ) → i < j → j < length xs → get_or xs i 0 < get_or xs j 0
  rising i zero l h = absurd (omega (arith, l))
  rising i (suc j) l h =
      let next : get_or xs j 0 < get_or xs (suc j) 0 = subst (λ (k : ℕ). get_or xs j 0 < get_or xs k 0) (add-one j) (rises j (omega (arith, h))) in
      elim (cases_eq i j) [
        | inl e ↦ subst (λ (k : ℕ). get_or xs k 0 < get_or xs (suc j) 0) (sym e) next
        | inr ne ↦ (let before = rising i j (omega (arith, l, ne)) (omega (arith, h)) in omega (arith, before, next))
      ]

  pub rising_le : (i j : ℕ) → i ≤ j → j < length xs → get_or xs i 0 ≤ get_or xs j 0
  rising_le i j l h = elim (cases_eq i j) [
    | inl e ↦ (let same : get_or xs i 0 ≡ get_or xs j 0 = ap (λ (k : ℕ). get_or xs k 0) e in omega (arith, same))
    | inr ne ↦ (let less = rising i j (omega (arith, l, ne)) h in omega (arith, less))
  ]

  pub rising_once : IsOnce xs
  rising_once i j x a b =
      let li = slice_get_within xs i x a in
      let lj = slice_get_within xs j x b in
      let ei : get_or xs i 0 ≡ x = get_or_from_slice_get xs i x 0 a in
      let ej : get_or xs j 0 ≡ x = get_or_from_slice_get xs j x 0 b in
      elim (cases_order i j) [
        | inl e ↦ e
        | inr (inl l) ↦ absurd (let less = rising i j l lj in omega (arith, less, ei, ej))
        | inr (inr l) ↦ absurd (let less = rising j i l li in omega (arith, less, ei, ej))
      ]

-- what is among the first of a list, by its place
pub taken_place : (xs : List ℕ) (n x : ℕ) → Contains (take n xs) x → (i : ℕ) × (i < n) × (i < length xs) × (get_or xs i 0 ≡ x)
taken_place xs n x (i, l, e) =
    let low : i < n = omega (arith, l, length-take n xs) in
    let within : i < length xs = omega (arith, l, length-take n xs) in
    (i, low, within, get_or_default xs i 0 x within ∙ sym (get_or-take n xs i x low) ∙ e)

pub place_taken : (xs : List ℕ) (n x i : ℕ) → i < n → i < length xs → get_or xs i 0 ≡ x → Contains (take n xs) x
place_taken xs n x i low within e = (i, omega (arith, low, within, length-take n xs), get_or-take n xs i x low ∙ sym (get_or_default xs i 0 x within) ∙ e)

-- the place of the first number that isn't below the bound
pub record IsPlaceFrom (xs : List ℕ) (bound at : ℕ) : Type 0 where
  pub within : at ≤ length xs
  pub below : (k : ℕ) → k < at → get_or xs k 0 < bound
  pub above : (k : ℕ) → at ≤ k → k < length xs → bound ≤ get_or xs k 0

pub place_of_search : (xs : List ℕ) (bound : ℕ) (r : Result ℕ ℕ) → IsStrictlyIncreasing xs → IsBinarySearchResult (λ y. nat_cmp y bound) xs r
    → MatchResult r (λ i. IsPlaceFrom xs bound i) (λ i. IsPlaceFrom xs bound i)
place_of_search xs bound (Ok i) rises found =
    let (low, is) = searched xs bound (Ok i) found (rising_le xs rises) in
    record {
      within = omega (arith, low);
      below = λ k l. (let less = rising xs rises k i l low in omega (arith, less, is));
      above = λ k l h. (let more = rising_le xs rises i k l h in omega (arith, more, is));
    }
place_of_search xs bound (Err i) rises found =
    let (low, before, after) = searched xs bound (Err i) found (rising_le xs rises) in
    record { within = low; below = before; above = λ k l h. (let more = after k l h in omega (arith, more)) }

-- each number from one in a span up to the span's end is in it
pub passed_span : (xs : List ℕ) → IsStrictlyIncreasing xs → (spans : List Span) (at next end : ℕ) → at < length xs
    → ((s : Span) × Contains spans s × (s.from ≤ get_or xs at 0) × (get_or xs at 0 < s.to) × (s.to ≡ end)) → IsPlaceFrom xs end next
    → (at < next) × ((k : ℕ) → at ≤ k → k < next → IsAmong spans (get_or xs k 0))
passed_span xs rises spans at next end here (s, has, low, high, is) place = (
  (elim (cases_lt at next) [
    | inl l ↦ l
    | inr past ↦ absurd (let above = place.above at past here in omega (arith, above, high, is))
  ]),
  (λ k l h.
      let first = rising_le xs rises at k l (omega (arith, h, place.within)) in
      let last = place.below k h in
      (s, has, omega (arith, low, first), omega (arith, last, is))),
)
