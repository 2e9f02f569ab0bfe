-- The innermost open bracket is the last one that was put on the stack.
use Rattle.std.proofs.Common.{◌≡◌, ℕ, ◌-◌, ◌<◌, List, [], ◌∷◌, length, drop, get_or, reverse, Option, Some, None, refl, ap, ◌∙◌, arith}
use Rattle.std.specs.List.{slice_get}
use Rattle.std.proofs.lemmas.List.{length-reverse, get_or-reverse}
use Rattle.std.proofs.lemmas.Option.{slice_get_within, get_or_from_slice_get, slice_get-get_or}

clash : {A : Type 0} {o : Option A} {y : A} → o ≡ Some y → o ≡ None → ⊥
clash p q = absurd cc

first_or : {A : Type 0} (xs : List A) (d : A) → 0 < length xs → xs ≡ get_or xs 0 d ∷ drop 1 xs
first_or [] d lt = absurd (omega (arith, lt))
first_or (x ∷ xs) d lt = refl

first_reverse : {A : Type 0} (xs : List A) (d : A) → 0 < length xs → get_or (reverse xs) 0 d ≡ get_or xs (length xs - 1) d
first_reverse xs d lt = get_or-reverse xs 0 d lt ∙ ap (λ (k : ℕ). get_or xs k d) (omega arith)

pub first_none : {A : Type 0} (xs : List A) → slice_get xs (length xs - 1) ≡ None → reverse xs ≡ []
first_none [] e = refl
first_none (x ∷ xs) e = absurd (clash (slice_get-get_or (x ∷ xs) (length (x ∷ xs) - 1) x (omega arith)) e)

pub first_some : {A : Type 0} (xs : List A) (x : A) → slice_get xs (length xs - 1) ≡ Some x → reverse xs ≡ x ∷ drop 1 (reverse xs)
first_some xs x e =
    let lt : length xs - 1 < length xs = slice_get_within xs (length xs - 1) x e in
    let is : get_or xs (length xs - 1) x ≡ x = get_or_from_slice_get xs (length xs - 1) x x e in
    let some : 0 < length xs = omega (arith, lt) in
    first_or (reverse xs) x (rw length-reverse some) ∙ ap (λ y. y ∷ drop 1 (reverse xs)) (first_reverse xs x some ∙ is)
