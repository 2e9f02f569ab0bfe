-- The bits of words.
use Rattle.std.proofs.Common.{◌≡◌, ℕ, zero, suc, ◌*◌, ◌%◌, ◌^◌, ◌<◌, ◌↔◌, ◌⊎◌, inl, inr, Bool, false, true, not, nat_eq, List, [], ◌∷◌, length, get_or, set, replicate, bit_and, bit_or, refl, sym, ap, ◌∙◌, subst, arith, get_or-set_same, get_or-set_other}
use Rattle.std.specs.Int.{w64, bit_not, bit_at}
use Rattle.std.proofs.lemmas.Bool.{cases_eq, eqb-true, eq-eqb}
use Rattle.std.proofs.lemmas.Nat.{and_le_l}
use Rattle.std.proofs.lemmas.Nat.Bits.{bit_at-zero, bit_at-lt, bit_at_or, bit_at_and, bit_at_not, bit_at_set_same, bit_at_set_other}
use Rattle.hpr_search.specs.Marks.{IsMarked}
use Rattle.hpr_merge.specs.Words.{HasBit, column}

pub no_bit : (i : ℕ) → ¬ HasBit 0 i
no_bit i h = let z = bit_at-zero i in omega (arith, z, h)

pub or_bit : (a b i : ℕ) → HasBit (bit_or a b) i ↔ (HasBit a i ⊎ HasBit b i)
or_bit a b i =
    let o = bit_at_or a b i in
    let la = bit_at-lt a i in
    let lb = bit_at-lt b i in (
      λ h. elim (cases_eq (bit_at a i) 1) [ inl e ↦ inl e | inr ne ↦ inr (omega (arith, o, la, lb, h, ne)) ],
      λ h. elim h [ inl x ↦ omega (arith, o, la, lb, x) | inr y ↦ omega (arith, o, la, lb, y) ],
    )

pub and_bit : (a b i : ℕ) → HasBit (bit_and a b) i ↔ (HasBit a i × HasBit b i)
and_bit a b i =
    let o = bit_at_and a b i in
    let la = bit_at-lt a i in
    let lb = bit_at-lt b i in (
      λ h. (omega (arith, o, la, lb, h), omega (arith, o, la, lb, h)),
      λ (x, y). omega (arith, o, la, lb, x, y),
    )

pub not_bit : (a i : ℕ) → a < 2 ^ 64 → i < 64 → HasBit (bit_not w64 a) i ↔ (¬ HasBit a i)
not_bit a i fits l =
    let o = bit_at_not w64 a i fits l in
    let la = bit_at-lt a i in (
      λ h x. omega (arith, o, la, h, x),
      λ n. elim (cases_eq (bit_at a i) 1) [ inl e ↦ absurd (n e) | inr ne ↦ omega (arith, o, la, ne) ],
    )

-- a mark of a column is a bit of a word
pub column_bit : (ws : List ℕ) (i x : ℕ) → IsMarked (column ws i) x ↔ HasBit (get_or ws x 0) i
column_bit [] i x = (λ h. absurd cc, λ h. absurd (no_bit i h))
column_bit (w ∷ ws) i zero = (λ h. eqb-true (bit_at w i) 1 h, λ h. eq-eqb (bit_at w i) 1 h)
column_bit (w ∷ ws) i (suc x) = column_bit ws i x

pub both_marked : (ws : List ℕ) (x y i : ℕ) → HasBit (bit_and (get_or ws x 0) (get_or ws y 0)) i ↔ (IsMarked (column ws i) x × IsMarked (column ws i) y)
both_marked ws x y i =
    let both = and_bit (get_or ws x 0) (get_or ws y 0) i in (
      λ h. (let (a, b) = both.0 h in ((column_bit ws i x).1 a, (column_bit ws i y).1 b)),
      λ (a, b). both.1 ((column_bit ws i x).0 a, (column_bit ws i y).0 b),
    )

pub blank_bit : (n x i : ℕ) → ¬ HasBit (get_or (replicate n 0) x 0) i
blank_bit zero x i h = no_bit i h
blank_bit (suc n) zero i h = no_bit i h
blank_bit (suc n) (suc x) i h = blank_bit n x i h

-- an item by any default
pub item_or : (xs : List ℕ) (k d e : ℕ) → k < length xs → get_or xs k d ≡ get_or xs k e
item_or [] k d e l = absurd (omega (arith, l))
item_or (x ∷ xs) zero d e l = refl
item_or (x ∷ xs) (suc k) d e l = item_or xs k d e (omega (arith, l))

pub own_item : (xs : List ℕ) (k w : ℕ) → k < length xs → w ≡ get_or xs k w → w ≡ get_or xs k 0
own_item xs k w l is = is ∙ item_or xs k w 0 l

-- what a test of two words says
pub not_same : (a b : ℕ) → not (nat_eq a b) ≡ false → a ≡ b
not_same a b e = eqb-true a b (go (nat_eq a b) e)
  where
    go : (t : Bool) → not t ≡ false → t ≡ true
    go true e = refl
    go false e = absurd cc

pub not_other : (a b : ℕ) → not (nat_eq a b) ≡ true → a ≡ b → ⊥
not_other a b e same = go (nat_eq a b) e (eq-eqb a b same)
  where
    go : (t : Bool) → not t ≡ true → t ≡ true → ⊥
    go true e is = absurd cc
    go false e is = absurd cc

-- a word with one bit more
pub put_bits : (ws new : List ℕ) (at bit : ℕ) → at < length ws → bit < 64 → new ≡ set ws at (bit_or (get_or ws at 0) (1 * 2 ^ bit % 2 ^ 64))
    → (x i : ℕ) → HasBit (get_or new x 0) i ↔ (HasBit (get_or ws x 0) i ⊎ ((x ≡ at) × (i ≡ bit)))
put_bits ws new at bit within few is x i = elim (cases_eq x at) [
  | inl here ↦
      (let w = get_or ws at 0 in
      let now : get_or new x 0 ≡ bit_or w (1 * 2 ^ bit % 2 ^ 64) = ap (λ (n : ℕ). get_or new n 0) here ∙ ap (λ (xs : List ℕ). get_or xs at 0) is ∙ get_or-set_same ws at (bit_or w (1 * 2 ^ bit % 2 ^ 64)) 0 within in
      let was : get_or ws x 0 ≡ w = ap (λ (n : ℕ). get_or ws n 0) here in
      elim (cases_eq i bit) [
        | inl e ↦ (
          λ h. inr (here, e),
          λ h. subst (λ (n : ℕ). HasBit n i) (sym now) (subst (λ (n : ℕ). HasBit (bit_or w (1 * 2 ^ bit % 2 ^ 64)) n) (sym e) (bit_at_set_same w64 w bit few)),
        )
        | inr ne ↦
            (let other : bit_at (bit_or w (1 * 2 ^ bit % 2 ^ 64)) i ≡ bit_at w i = bit_at_set_other w64 w bit few i ne in (
              λ h. inl (subst (λ (n : ℕ). HasBit n i) (sym was) (sym other ∙ subst (λ (n : ℕ). HasBit n i) now h)),
              λ h. elim h [
                | inl old ↦ subst (λ (n : ℕ). HasBit n i) (sym now) (other ∙ subst (λ (n : ℕ). HasBit n i) was old)
                | inr both ↦ absurd (ne both.1)
              ],
            ))
      ])
  | inr there ↦
      (let now : get_or new x 0 ≡ get_or ws x 0 = ap (λ (xs : List ℕ). get_or xs x 0) is ∙ get_or-set_other ws at x (bit_or (get_or ws at 0) (1 * 2 ^ bit % 2 ^ 64)) 0 there in (
        λ h. inl (subst (λ (n : ℕ). HasBit n i) now h),
        λ h. elim h [ inl old ↦ subst (λ (n : ℕ). HasBit n i) (sym now) old | inr both ↦ absurd (there both.0) ],
      ))
]

-- what is left of a word
pub left_bit : (a b i : ℕ) → b < 2 ^ 64 → i < 64 → HasBit (bit_and a (bit_not w64 b)) i ↔ (HasBit a i × (¬ HasBit b i))
left_bit a b i fits l =
    let both = and_bit a (bit_not w64 b) i in
    let no = not_bit b i fits l in (
      λ h. (let (x, y) = both.0 h in (x, no.0 y)),
      λ (x, y). both.1 (x, no.1 y),
    )

-- the bits of a vertex that both words have
pub here_bit : (w : ℕ) (grown own : List ℕ) (to i : ℕ) → HasBit (bit_and (bit_and w (get_or grown to 0)) (get_or own to 0)) i ↔ (HasBit w i × (IsMarked (column grown i) to × IsMarked (column own i) to))
here_bit w grown own to i =
    let one = and_bit w (get_or grown to 0) i in
    let both = and_bit (bit_and w (get_or grown to 0)) (get_or own to 0) i in (
      λ h. (let (a, o) = both.0 h in let (x, g) = one.0 a in (x, ((column_bit grown i to).1 g, (column_bit own i to).1 o))),
      λ (x, (g, o)). both.1 (one.1 (x, (column_bit grown i to).0 g), (column_bit own i to).0 o),
    )

pub rest_bit : (w here left i : ℕ) → here < 2 ^ 64 → i < 64 → HasBit (bit_or (bit_and w (bit_not w64 here)) left) i ↔ ((HasBit w i × (¬ HasBit here i)) ⊎ HasBit left i)
rest_bit w here left i fits few =
    let either = or_bit (bit_and w (bit_not w64 here)) left i in
    let rest = left_bit w here i fits few in (
      λ h. elim (either.0 h) [ inl a ↦ inl (rest.0 a) | inr b ↦ inr b ],
      λ h. elim h [ inl a ↦ either.1 (inl (rest.1 a)) | inr b ↦ either.1 (inr b) ],
    )

pub and_fits : (a b : ℕ) → a < 2 ^ 64 → bit_and a b < 2 ^ 64
and_fits a b l = let less = and_le_l a b in omega (arith, less, l)
