-- Names in order, each once, and what a search among them finds.
use Rattle.std.proofs.Common.{◌≡◌, ℕ, ◌+◌, ◌==◌, Bool, true, false, Result, Ok, Err, Some, List, length, get_or, Contains, IsTrue, ◌↔◌, inl, inr, refl, sym, ap, ◌∙◌, arith}
use Rattle.std.specs.Cmp.Lexicographic.{slice_cmp, pointwise, same_text, texts_ties}
use Rattle.std.specs.Ordering.{nat_cmp, is_lt, ordering_reverse}
use Rattle.std.specs.declared.cmp.Ordering.{Ordering}
use Rattle.std.specs.declared.cmp.Ordering.TheVariants.{Less, Equal, Greater}
use Rattle.std.specs.List.{dedup, slice_get}
use Rattle.std.specs.Result.{is_ok}
use Rattle.std.specs.List.Sorted.{IsSorted, IsStrictlySortedBy, IsPermutation, IsBinarySearchResult, IsSearchInRange}
use Rattle.std.proofs.lemmas.Bool.{cases_lt}
use Rattle.std.proofs.lemmas.Cmp.{nat_list_cmp_total, nat_list_eq_equiv, tied_itself}
use Rattle.std.proofs.lemmas.List.Kept.{IsStrictlySortedBy-dedup, Contains-dedup, Contains-from_dedup}
use Rattle.std.proofs.lemmas.List.Sorted.{searchable_from_sorted, Contains-permutation, IsPermutation-sym}
use Rattle.std.proofs.lemmas.Map.Keys.{Less-from_sorted}
use Rattle.std.proofs.lemmas.Map.Lookups.{exact_bytes}
use Rattle.std.proofs.lemmas.Option.{slice_get-get_or}

abbrev Names : Type 0
Names = List (List ℕ)

abbrev order : List ℕ → List ℕ → Ordering
order = slice_cmp nat_cmp

abbrev same : List ℕ → List ℕ → Bool
same = pointwise ◌==◌

-- what is strictly in order is in order
sorted_of_strict : (xs : Names) → IsStrictlySortedBy order xs → IsSorted order xs
sorted_of_strict xs s = λ k d l h.
    let less : order (get_or xs k d) (get_or xs (k + 1) d) ≡ Less = Less-from_sorted order xs k (k + 1) d s (omega arith) h in
    ap is_lt (nat_list_cmp_total.antisymm (get_or xs (k + 1) d) (get_or xs k d) ∙ ap ordering_reverse less)

pub strict_of_dedup : (xs : Names) → IsSorted order xs → IsStrictlySortedBy order (dedup same xs)
strict_of_dedup xs s = IsStrictlySortedBy-dedup nat_list_cmp_total texts_ties xs s

pub dedup_keeps : (xs ys : Names) (x : List ℕ) → IsPermutation xs ys → Contains (dedup same ys) x ↔ Contains xs x
dedup_keeps xs ys x p = (
  (λ h. Contains-permutation ys xs x (IsPermutation-sym xs ys p) (Contains-from_dedup same ys x h)),
  (λ h. Contains-dedup nat_list_eq_equiv (λ a b e. same_text a b (sym e)) ys x (Contains-permutation xs ys x p h)),
)

-- what a search answers
pub among : (xs : Names) (x : List ℕ) (r : Result ℕ ℕ) (b : Bool) → IsStrictlySortedBy order xs → IsSearchInRange r (length xs) → IsBinarySearchResult (λ y. order y x) xs r → b ≡ is_ok r → IsTrue b ↔ Contains xs x
among xs x (Ok i) b s bound found is = (
  (λ t. (i, bound, exact_bytes (get_or xs i x) x (found x))),
  (λ h. is),
)
among xs x (Err i) b s bound found is = (
  (λ t. absurd (let e : is_ok {T = ℕ} {E = ℕ} (Err i) ≡ true = sym is ∙ t in cc)),
  (λ (k, l, e). absurd (
      let point = found (searchable_from_sorted nat_list_cmp_total (λ y. y) xs x (sorted_of_strict xs s)) in
      let tied : order (get_or xs k x) x ≡ Equal = ap (λ y. order y x) e ∙ tied_itself nat_list_cmp_total x in
      elim (cases_lt k i) [
        | inl before ↦ (let less : order (get_or xs k x) x ≡ Less = point.0 k x (omega arith) before in cc)
        | inr after ↦ (let more : order (get_or xs k x) x ≡ Greater = point.1 k x after l in cc)
      ])),
)

-- what a search finds, and what it doesn't
pub found_at : (xs : List (List ℕ)) (x : List ℕ) (i : ℕ) → IsSearchInRange (Ok i) (length xs) → IsBinarySearchResult (λ y. slice_cmp nat_cmp y x) xs (Ok i) → slice_get xs i ≡ Some x
found_at xs x i bound found = slice_get-get_or xs i x bound ∙ ap (λ (y : List ℕ). Some y) (exact_bytes (get_or xs i x) x (found x))

pub found_none : (xs : List (List ℕ)) (x : List ℕ) (i : ℕ) → IsStrictlySortedBy (slice_cmp nat_cmp) xs → IsSearchInRange (Err i) (length xs) → IsBinarySearchResult (λ y. slice_cmp nat_cmp y x) xs (Err i) → ¬ Contains xs x
found_none xs x i sorted bound found h = let t = (among xs x (Err i) false sorted bound found refl).1 h in absurd cc
