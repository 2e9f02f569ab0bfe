-- Loops over the bytes of words.
use Rattle.std.proofs.Common.{◌≡◌, ℕ, ◌+◌, ◌-◌, ◌*◌, ◌<◌, ◌≤◌, ◌^◌, List, ◌∷◌, length, drop, get_or, refl, sym, ap, ◌∙◌, arith, drop-cons, add-one}
use Rattle.hpr_scan.specs.Words.{value_after}
use Rattle.hpr_scan.proofs.Words.{value_grows}

pub value_goes : (bs : List ℕ) (i n : ℕ) → i < length bs → value_after n (drop i bs) ≡ value_after 0 bs → value_after (10 * n + (get_or bs i 0 - 48)) (drop (i + 1) bs) ≡ value_after 0 bs
value_goes bs i n lt e =
    let here : drop i bs ≡ get_or bs i 0 ∷ drop (i + 1) bs = rw (add-one, drop-cons bs i 0 lt) refl in
    sym (ap (value_after n) here) ∙ e

pub value_over : (bs : List ℕ) (i n : ℕ) → i < length bs → value_after n (drop i bs) ≡ value_after 0 bs → 2 ^ 64 ≤ 10 * n + (get_or bs i 0 - 48) → 2 ^ 64 ≤ value_after 0 bs
value_over bs i n lt e over = omega (arith, value_goes bs i n lt e, value_grows (10 * n + (get_or bs i 0 - 48)) (drop (i + 1) bs))
