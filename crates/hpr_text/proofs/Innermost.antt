-- The innermost open block is the last one that was put on the stack.
use Rattle.std.proofs.Common.{◌≡◌, ℕ, ◌-◌, ◌<◌, List, [], ◌∷◌, length, get_or, reverse, Option, Some, None, refl, ap, ◌∙◌, arith}
use Rattle.std.specs.List.{slice_get}
use Rattle.std.proofs.lemmas.List.{length-reverse, get_or-reverse}
use Rattle.std.proofs.lemmas.Option.{slice_get_within, get_or_from_slice_get, slice_get-get_or}
use Rattle.hpr_text.specs.declared.blocks.Begun.{Begun}
use Rattle.hpr_text.specs.declared.blocks.Begun.TheVariants.{Then, Else, Loop}
use Rattle.hpr_text.specs.Blocks.{kind_of}

first_kind : (x : Begun) (xs : List Begun) → kind_of (x ∷ xs) ≡ kind_of (x ∷ [])
first_kind (Then r) xs = refl
first_kind (Else r first) xs = refl
first_kind (Loop r) xs = refl

kind_first : (xs : List Begun) (d : Begun) → 0 < length xs → kind_of xs ≡ kind_of (get_or xs 0 d ∷ [])
kind_first [] d lt = absurd (omega (arith, lt))
kind_first (x ∷ xs) d lt = first_kind x xs

first_reverse : (xs : List Begun) (d : Begun) → 0 < length xs → get_or (reverse xs) 0 d ≡ get_or xs (length xs - 1) d
first_reverse xs d lt = get_or-reverse xs 0 d lt ∙ ap (λ (k : ℕ). get_or xs k d) (omega arith)

pub kind_none : (xs : List Begun) → slice_get xs (length xs - 1) ≡ None → kind_of (reverse xs) ≡ kind_of []
kind_none [] e = refl
kind_none (x ∷ xs) e = absurd (clash (slice_get-get_or (x ∷ xs) (length (x ∷ xs) - 1) x (omega arith)) e)
  where
    clash : {o : Option Begun} {y : Begun} → o ≡ Some y → o ≡ None → ⊥
    clash p q = absurd cc

pub kind_some : (xs : List Begun) (x : Begun) → slice_get xs (length xs - 1) ≡ Some x → kind_of (reverse xs) ≡ kind_of (x ∷ [])
kind_some xs x e =
    let lt : length xs - 1 < length xs = slice_get_within xs (length xs - 1) x e in
    let is : get_or xs (length xs - 1) x ≡ x = get_or_from_slice_get xs (length xs - 1) x x e in
    let some : 0 < length xs = omega (arith, lt) in
    kind_first (reverse xs) x (rw length-reverse some) ∙ ap (λ (y : Begun). kind_of (y ∷ [])) (first_reverse xs x some ∙ is)
