-- Names in ascending order: put one by one, each at its place.
use Rattle.std.proofs.Common.{◌≡◌, ℕ, zero, suc, Bool, true, false, None, List, [], ◌∷◌, Contains, inl, inr, refl, sym, subst, arith}
use Rattle.std.specs.declared.cmp.Ordering.{Ordering}
use Rattle.std.specs.declared.cmp.Ordering.TheVariants.{Less, Equal, Greater}
use Rattle.std.specs.Cmp.Lexicographic.{nat_list_cmp_total, same_text}
use Rattle.std.specs.List.{list_any}
use Rattle.std.specs.List.Sorted.{IsPermutation}
use Rattle.std.specs.Str.{bytes_eq}
use Rattle.std.proofs.lemmas.Bool.{cases_lt}
use Rattle.std.proofs.lemmas.List.Sorted.{IsPermutation-refl, IsPermutation-sym, IsPermutation-trans, IsPermutation-cons, IsPermutation-append_left, IsPermutation-append_comm, Contains-permutation}
use Rattle.hpr_terms.proofs.Facts.{neither, unless}
use Rattle.hpr_syntax.specs.Shape.{first_repeated}
use Rattle.hpr_graph.specs.Graphs.{IsOnce}
use Rattle.hpr_graph.specs.Order.{name_cmp}
use Rattle.hpr_graph.specs.InOrder.{Ascends}
use Rattle.hpr_graph.proofs.Lists.{contains_at, in_none, in_cons, in_here, in_later, once_tail, once_head}
use Rattle.hpr_graph.proofs.VertexOrder.{name_tied}
use Rattle.hpr_graph.proofs.NameOrder.{never_less, turned}

abbrev Names : Type 0
Names = List (List ℕ)

-- each name comes before those behind it
abbrev Rises : Names → Type 0
Rises [] = Unit {0}
Rises (x ∷ xs) = ((y : List ℕ) → Contains xs y → name_cmp x y ≡ Less) × Rises xs

ascends : (xs : Names) → Rises xs → Ascends name_cmp xs
ascends [] r i j x y l p q = absurd cc
ascends (z ∷ xs) r i zero x y l p q = absurd (omega (arith, l))
ascends (z ∷ xs) r zero (suc j) x y l p q = let e : z ≡ x = cc in subst (λ (w : List ℕ). name_cmp w y ≡ Less) e (r.0 y (contains_at xs j y q))
ascends (z ∷ xs) r (suc i) (suc j) x y l p q = ascends xs r.1 i j x y (omega (arith, l)) p q

-- a name put among names that rise
abbrev PutIn : List ℕ → Names → Type 0
PutIn y xs = (ys : Names) × IsPermutation (y ∷ xs) ys × Rises ys

swapped : (y x : List ℕ) (xs : Names) → IsPermutation (y ∷ x ∷ xs) (x ∷ y ∷ xs)
swapped y x xs = IsPermutation-append_left xs (y ∷ x ∷ []) (x ∷ y ∷ []) (IsPermutation-append_comm (y ∷ []) (x ∷ []))

put_in : (y : List ℕ) (xs : Names) → Rises xs → ¬ Contains xs y → PutIn y xs
put_in y [] r new = (y ∷ [], IsPermutation-refl (y ∷ []), ((λ z h. absurd (in_none z h)), tt))
put_in y (x ∷ xs) (less, r) new = at (name_cmp y x) refl (put_in y xs r (λ h. new (in_later x y xs h)))
  where
    at : (o : Ordering) → name_cmp y x ≡ o → PutIn y xs → PutIn y (x ∷ xs)
    at Less e later = (
      y ∷ x ∷ xs,
      IsPermutation-refl (y ∷ x ∷ xs),
      (
        λ z h. elim (in_cons x z xs h) [
          | inl same ↦ subst (λ (w : List ℕ). name_cmp y w ≡ Less) same e
          | inr behind ↦ nat_list_cmp_total.trans y x z e (less z behind)
        ],
        (less, r),
      ),
    )
    at Equal e later = absurd (new (subst (Contains (x ∷ xs)) (sym (name_tied y x e)) (in_here x xs)))
    at Greater e (ys, moved, rise) = (
      x ∷ ys,
      IsPermutation-trans (y ∷ x ∷ xs) (x ∷ y ∷ xs) (x ∷ ys) (swapped y x xs) (IsPermutation-cons x (y ∷ xs) ys moved),
      (
        λ z h. elim (in_cons y z xs (Contains-permutation ys (y ∷ xs) z (IsPermutation-sym (y ∷ xs) ys moved) h)) [
          | inl same ↦ subst (λ (w : List ℕ). name_cmp x w ≡ Less) same (turned y x e)
          | inr old ↦ less z old
        ],
        rise,
      ),
    )

rising : (xs : Names) → IsOnce xs → (ys : Names) × IsPermutation xs ys × Rises ys
rising [] once = ([], IsPermutation-refl [], tt)
rising (x ∷ xs) once =
    let (ys, moved, rise) = rising xs (once_tail x xs once) in
    let (zs, moved', rise') = put_in x ys rise (λ h. once_head x xs once (Contains-permutation ys xs x (IsPermutation-sym xs ys moved) h)) in
    (zs, IsPermutation-trans (x ∷ xs) (x ∷ ys) zs (IsPermutation-cons x xs ys moved) moved', rise')

-- names that differ can be put in order
pub in_order : (xs : Names) → IsOnce xs → (ys : Names) × IsPermutation xs ys × Ascends name_cmp ys
in_order xs once = let (ys, moved, rise) = rising xs once in (ys, moved, ascends ys rise)

-- names in order differ
pub ascending_once : (xs : Names) → Ascends name_cmp xs → IsOnce xs
ascending_once xs up i j x p q = elim (cases_lt i j) [
  | inl l ↦ absurd (never_less x (up i j x x l p q))
  | inr g ↦ (elim (cases_lt j i) [
    | inl l ↦ absurd (never_less x (up j i x x l q p))
    | inr h ↦ omega (arith, g, h)
  ])
]

differ : (x y : List ℕ) → (x ≡ y → ⊥) → bytes_eq x y ≡ false
differ x y ne = at (bytes_eq x y) refl
  where
    at : (b : Bool) → bytes_eq x y ≡ b → b ≡ false
    at false e = refl
    at true e = absurd (ne (same_text x y (sym e)))

unrepeated_from : (earlier xs : Names) → ((x : List ℕ) → Contains xs x → list_any (bytes_eq x) earlier ≡ false) → IsOnce xs → first_repeated bytes_eq earlier xs ≡ None
unrepeated_from earlier [] new once = refl
unrepeated_from earlier (x ∷ xs) new once =
    unless (list_any (bytes_eq x) earlier) x (first_repeated bytes_eq (x ∷ earlier) xs) (new x (in_here x xs))
    (unrepeated_from (x ∷ earlier) xs
    (λ y h. neither (bytes_eq y x) (list_any (bytes_eq y) earlier)
    (differ y x (λ e. once_head x xs once (subst (Contains xs) e h)))
    (new y (in_later x y xs h)))
    (once_tail x xs once))

-- nothing is repeated among names that differ
pub unrepeated : (xs : Names) → IsOnce xs → first_repeated bytes_eq [] xs ≡ None
unrepeated xs once = unrepeated_from [] xs (λ x h. refl) once
