-- What stands at which number of a list whose first element has a given one.
--
-- HasAt xs n p s == in a list whose first element has the number n, s has the number p
use Rattle.std.proofs.Common.{◌≡◌, ◌<◌, ◌≤◌, ◌+◌, ℕ, zero, suc, ◌⊎◌, inl, inr, Some, List, [], ◌∷◌, ◌++◌, length, refl, sym, ap, arith}
use Rattle.std.specs.List.{slice_get}
use Rattle.std.proofs.lemmas.Bool.{cases_eq}
use Rattle.std.proofs.lemmas.Option.{same_Some}

abbrev pub HasAt : {X : Type 0} → List X → ℕ → ℕ → X → Type 0
HasAt [] n p s = ⊥
HasAt (x ∷ xs) n p s = ((p ≡ n) × (s ≡ x)) ⊎ HasAt xs (n + 1) p s

pub has_left : {X : Type 0} (xs ys : List X) (n p : ℕ) (s : X) → HasAt xs n p s → HasAt (xs ++ ys) n p s
has_left [] ys n p s h = absurd h
has_left (x ∷ xs) ys n p s (inl h) = inl h
has_left (x ∷ xs) ys n p s (inr h) = inr (has_left xs ys (n + 1) p s h)

pub has_right : {X : Type 0} (xs ys : List X) (n m p : ℕ) (s : X) → m ≡ n + length xs → HasAt ys m p s → HasAt (xs ++ ys) n p s
has_right [] ys n m p s e h = let same : m ≡ n = omega arith in rw (← same) h
has_right (x ∷ xs) ys n m p s e h = inr (has_right xs ys (n + 1) m p s (omega arith) h)

pub has_split : {X : Type 0} (xs ys : List X) (n m p : ℕ) (s : X) → m ≡ n + length xs → HasAt (xs ++ ys) n p s → HasAt xs n p s ⊎ HasAt ys m p s
has_split [] ys n m p s e h = let same : m ≡ n = omega arith in inr (rw same h)
has_split (x ∷ xs) ys n m p s e (inl h) = inl (inl h)
has_split (x ∷ xs) ys n m p s e (inr h) = elim (has_split xs ys (n + 1) m p s (omega arith) h) [ inl a ↦ inl (inr a) | inr b ↦ inr b ]

pub has_low : {X : Type 0} (xs : List X) (n p : ℕ) (s : X) → HasAt xs n p s → n ≤ p
has_low [] n p s h = absurd h
has_low (x ∷ xs) n p s (inl h) = omega (arith, h.0)
has_low (x ∷ xs) n p s (inr h) = omega (arith, has_low xs (n + 1) p s h)

pub has_high : {X : Type 0} (xs : List X) (n p : ℕ) (s : X) → HasAt xs n p s → p < n + length xs
has_high [] n p s h = absurd h
has_high (x ∷ xs) n p s (inl h) = omega (arith, h.0)
has_high (x ∷ xs) n p s (inr h) = omega (arith, has_high xs (n + 1) p s h)

pub get_of_has : {X : Type 0} (xs : List X) (n p k : ℕ) (s : X) → p ≡ n + k → HasAt xs n p s → slice_get xs k ≡ Some s
get_of_has [] n p k s e h = absurd h
get_of_has {X} (x ∷ xs) n p zero s e (inl h) = ap (λ (y : X). Some y) (sym h.1)
get_of_has (x ∷ xs) n p zero s e (inr h) = let low : n + 1 ≤ p = has_low xs (n + 1) p s h in absurd (omega arith)
get_of_has (x ∷ xs) n p (suc k) s e (inl h) = let same : p ≡ n = h.0 in absurd (omega arith)
get_of_has (x ∷ xs) n p (suc k) s e (inr h) = get_of_has xs (n + 1) p k s (omega arith) h

pub has_of_get : {X : Type 0} (xs : List X) (n p k : ℕ) (s : X) → p ≡ n + k → slice_get xs k ≡ Some s → HasAt xs n p s
has_of_get [] n p k s e h = absurd cc
has_of_get (x ∷ xs) n p zero s e h = inl (omega arith, sym (same_Some x s h))
has_of_get (x ∷ xs) n p (suc k) s e h = inr (has_of_get xs (n + 1) p k s (omega arith) h)

pub some_has : {X : Type 0} (xs : List X) (n p : ℕ) → n ≤ p → p < n + length xs → (s : X) × HasAt xs n p s
some_has [] n p low high = absurd (omega arith)
some_has (x ∷ xs) n p low high = elim (same_or_more n p low) [
  | inl e ↦ (x, inl (e, refl))
  | inr l ↦ (let k = some_has xs (n + 1) p l (omega (arith, high)) in (k.0, inr k.1))
]
  where
    same_or_more : (n p : ℕ) → n ≤ p → (p ≡ n) ⊎ (n + 1 ≤ p)
    same_or_more n p low = elim (cases_eq p n) [ inl e ↦ inl e | inr ne ↦ inr (omega arith) ]
