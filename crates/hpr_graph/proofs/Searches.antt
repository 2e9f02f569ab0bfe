-- What a search in an ascending list finds, in any total order in which what ties is the same.
use Rattle.std.proofs.Common.{◌≡◌, ℕ, ◌+◌, false, ◌↔◌, inl, inr, Result, Ok, Err, List, length, get_or, Contains, IsTrue, refl, sym, ap, ◌∙◌, arith}
use Rattle.std.specs.Result.{is_ok}
use Rattle.std.specs.declared.cmp.Ordering.{Ordering}
use Rattle.std.specs.declared.cmp.Ordering.TheVariants.{Less, Equal, Greater}
use Rattle.std.specs.Cmp.{IsTotalOrder, tied_itself}
use Rattle.std.specs.Ordering.{ordering_reverse, is_lt}
use Rattle.std.specs.List.Sorted.{IsSorted, IsBinarySearchResult, IsSearchInRange}
use Rattle.std.proofs.lemmas.Bool.{cases_lt}
use Rattle.std.proofs.lemmas.Option.{slice_get-get_or}
use Rattle.std.proofs.lemmas.List.Sorted.{searchable_from_sorted}
use Rattle.hpr_graph.specs.InOrder.{Ascends}

pub not_less : (o : Ordering) → ordering_reverse o ≡ Less → is_lt o ≡ false
not_less Less e = absurd cc
not_less Equal e = refl
not_less Greater e = refl

pub less_equal : Less ≡ Equal → ⊥
less_equal e = cc

pub greater_equal : Greater ≡ Equal → ⊥
greater_equal e = cc

module _ {X : Type 0} (cmp : X → X → Ordering) (total : IsTotalOrder cmp) (xs : List X) where
  pub sorted_ascending : Ascends cmp xs → IsSorted cmp xs
  sorted_ascending up k d low high =
      let less : cmp (get_or xs k d) (get_or xs (k + 1) d) ≡ Less =
      up k (k + 1) (get_or xs k d) (get_or xs (k + 1) d) (omega arith) (slice_get-get_or xs k d (omega (arith, high))) (slice_get-get_or xs (k + 1) d high) in
      not_less (cmp (get_or xs (k + 1) d) (get_or xs k d)) (sym (total.antisymm (get_or xs k d) (get_or xs (k + 1) d)) ∙ less)

  module _ (tied : (x y : X) → cmp x y ≡ Equal → x ≡ y) (x : X) (up : IsSorted cmp xs) where
    pub found_sorted : (r : Result ℕ ℕ) → IsSearchInRange r (length xs) → IsBinarySearchResult (λ y. cmp y x) xs r → IsTrue (is_ok r) ↔ Contains xs x
    found_sorted (Ok i) range at = (λ t. (i, range, tied (get_or xs i x) x (at x)), λ h. refl)
    found_sorted (Err i) range at =
        let (below, above) = at (searchable_from_sorted total (λ (y : X). y) xs x up) in (
          λ t. absurd cc,
          λ (k, within, is). elim (cases_lt k i) [
            | inl before ↦ absurd (less_equal (sym (below k x (omega arith) before) ∙ ap (λ (y : X). cmp y x) is ∙ tied_itself total x))
            | inr after ↦ absurd (greater_equal (sym (above k x after within) ∙ ap (λ (y : X). cmp y x) is ∙ tied_itself total x))
          ],
        )
