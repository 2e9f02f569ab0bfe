-- What is no text has a place, where some text is.
use Rattle.std.proofs.Common.{◌≡◌, ℕ, zero, suc, ◌≤◌, List, [], ◌∷◌, length, take, inl, inr, refl, sym, subst, arith}
use Rattle.std.proofs.lemmas.Bool.{cases_eq}
use Rattle.hpr_terms.proofs.Facts.{by_both}
use Rattle.hpr_scan.specs.Place.{IsViable, IsPlace}

take_none : (bytes : List ℕ) → take 0 bytes ≡ []
take_none [] = refl
take_none (b ∷ bytes) = refl

module _ (L : List ℕ → Type 0) (bytes : List ℕ) (unspelled : L bytes → ⊥) (some : IsViable L []) where
  -- no longer front can be completed
  abbrev NoLonger : ℕ → Type 0
  NoLonger n = (m : ℕ) → m ≤ length bytes → IsViable L (take m bytes) → m ≤ n

  abbrev HasPlace : Type 0
  HasPlace = (n : ℕ) × IsPlace L bytes n

  place_at : (n : ℕ) → n ≤ length bytes → IsViable L (take n bytes) → NoLonger n → HasPlace
  place_at n within viable longest = (n, record { unspelled = unspelled; within = within; viable = viable; longest = longest })

  one_less : (n : ℕ) → NoLonger (suc n) → (¬ IsViable L (take (suc n) bytes)) → NoLonger n
  one_less n longest none m within viable = elim (cases_eq m (suc n)) [
    | inl e ↦ absurd (none (subst (λ (k : ℕ). IsViable L (take k bytes)) e viable))
    | inr other ↦ omega (arith, longest m within viable, other)
  ]

  search_down : (n : ℕ) → n ≤ length bytes → NoLonger n → ¬ (¬ HasPlace)
  search_down zero within longest k = k (place_at zero within (subst (IsViable L) (sym (take_none bytes)) some) longest)
  search_down (suc n) within longest k =
      by_both (IsViable L (take (suc n) bytes)) HasPlace
      (λ viable found. found (place_at (suc n) within viable longest))
      (λ none. search_down n (omega (arith, within)) (one_less n longest none)) k

  pub some_place : ¬ (¬ HasPlace)
  some_place = search_down (length bytes) (omega arith) (λ m within viable. within)
