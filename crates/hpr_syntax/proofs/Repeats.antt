-- A list in which nothing is repeated has each of its items at one place.
use Rattle.std.proofs.Common.{◌≡◌, ℕ, zero, suc, Bool, true, false, Some, None, List, [], ◌∷◌, refl, ap, subst}
use Rattle.std.specs.List.{slice_get, list_any}
use Rattle.std.proofs.lemmas.Option.{same_Some}
use Rattle.hpr_terms.proofs.Facts.{or_false, if_none}
use Rattle.hpr_syntax.specs.Shape.{first_repeated}

module _ {X : Type 0} (same : X → X → Bool) (itself : (x : X) → same x x ≡ true) where
  fresh : (earlier xs : List X) (j : ℕ) (x : X) → first_repeated same earlier xs ≡ None → slice_get xs j ≡ Some x → list_any (same x) earlier ≡ false
  fresh earlier [] j x none get = absurd cc
  fresh earlier (h ∷ xs) zero x none get =
      let P : X → Type 0 = λ u. list_any (same u) earlier ≡ false in
      subst P (same_Some h x get) (if_none (list_any (same h) earlier) h (first_repeated same (h ∷ earlier) xs) none).0
  fresh earlier (h ∷ xs) (suc j) x none get =
      (or_false (same x h) (list_any (same x) earlier) (fresh (h ∷ earlier) xs j x (if_none (list_any (same h) earlier) h (first_repeated same (h ∷ earlier) xs) none).1 get)).1

  not_again : (earlier xs : List X) (h : X) (j : ℕ) (x : X) → first_repeated same (h ∷ earlier) xs ≡ None → slice_get xs j ≡ Some x → h ≡ x → ⊥
  not_again earlier xs h j x none get is =
      let no : same x h ≡ false = (or_false (same x h) (list_any (same x) earlier) (fresh (h ∷ earlier) xs j x none get)).0 in
      let P : X → Type 0 = λ u. same u h ≡ true in
      let yes : same x h ≡ true = subst P is (itself h) in
      absurd cc

  pub places_once : (earlier xs : List X) (i j : ℕ) (x : X) → first_repeated same earlier xs ≡ None → slice_get xs i ≡ Some x → slice_get xs j ≡ Some x → i ≡ j
  places_once earlier [] i j x none a b = absurd cc
  places_once earlier (h ∷ xs) zero zero x none a b = refl
  places_once earlier (h ∷ xs) zero (suc j) x none a b =
      absurd (not_again earlier xs h j x (if_none (list_any (same h) earlier) h (first_repeated same (h ∷ earlier) xs) none).1 b (same_Some h x a))
  places_once earlier (h ∷ xs) (suc i) zero x none a b =
      absurd (not_again earlier xs h i x (if_none (list_any (same h) earlier) h (first_repeated same (h ∷ earlier) xs) none).1 a (same_Some h x b))
  places_once earlier (h ∷ xs) (suc i) (suc j) x none a b =
      ap suc (places_once (h ∷ earlier) xs i j x (if_none (list_any (same h) earlier) h (first_repeated same (h ∷ earlier) xs) none).1 a b)
