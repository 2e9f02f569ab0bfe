-- The number that `parse` reads is the one that a state word spells.
use Rattle.std.proofs.Common.{◌≡◌, ◌==◌, ℕ, ℤ, pos, negsuc, Bool, true, false, ◌&&◌, cond, List, [], ◌∷◌, length, drop, nat_le, Some, None, Result, Ok, Err, refl, sym, ap, subst, ◌∙◌, slice_index, FitsSigned, w64}
use Rattle.std.proofs.lemmas.Bool.{ltb-true, leb-true, lt-ltb, le-leb}
use Rattle.std.specs.Char.{is_digit}
use Rattle.std.specs.List.{list_all}
use Rattle.std.specs.Result.{result_ok}
use Rattle.std.specs.Str.Parse.{AllDigits, IsNumeral, ParsesSigned, signed_digits_value, without_leading_sign}
use Rattle.hpr_terms.proofs.Facts.{and_both}
use Rattle.hpr_syntax.specs.Value.{in_range}
use Rattle.hpr_words.specs.Request.{Text}
use Rattle.hpr_inputs.specs.States.{behind_minus, value_of}

digits_from : (ds : List ℕ) → list_all (λ d. is_digit d 10) ds ≡ true → AllDigits 10 ds
digits_from [] e = tt
digits_from (d ∷ ds) e = let parts = and_both _ _ e in (ltb-true _ _ parts.0, digits_from ds parts.1)

digits_back : (ds : List ℕ) → AllDigits 10 ds → list_all (λ d. is_digit d 10) ds ≡ true
digits_back [] h = refl
digits_back (d ∷ ds) h = rw (lt-ltb _ 10 h.0) (digits_back ds h.1)

fits : (z : ℤ) → in_range z ≡ true → FitsSigned w64 z
fits (pos n) e = record { sfits = ltb-true _ _ e }
fits (negsuc n) e = record { sfits = ltb-true _ _ e }

fits_back : (z : ℤ) → FitsSigned w64 z → in_range z ≡ true
fits_back (pos n) h = lt-ltb _ _ h.sfits
fits_back (negsuc n) h = lt-ltb _ _ h.sfits

abbrev is_value : List ℕ → ℤ → Bool
is_value ds z = nat_le 1 (length ds) && (list_all (λ d. is_digit d 10) ds && in_range z)

abbrev IsValue : List ℕ → ℤ → Type 0
IsValue ds z = IsNumeral 10 ds × FitsSigned w64 z

value_from : (ds : List ℕ) (z : ℤ) → is_value ds z ≡ true → IsValue ds z
value_from ds z e =
    let a = and_both _ _ e in
    let b = and_both _ _ a.1 in
    ((leb-true _ _ a.0, digits_from ds b.0), fits z b.1)

value_back : (ds : List ℕ) (z : ℤ) → IsValue ds z → is_value ds z ≡ true
value_back ds z h = rw (le-leb _ _ h.0.0, digits_back ds h.0.1, fits_back z h.1) refl

-- a text without a plus has the digits behind its minus
same_digits : (text : Text) → (slice_index text 0 == 43) ≡ false → without_leading_sign text ≡ behind_minus text
same_digits [] h = refl
same_digits (byte ∷ bytes) h = go (byte == 45)
  where
    go : (b : Bool) → cond b bytes (drop (cond (byte == 43) 1 0) (byte ∷ bytes)) ≡ cond b bytes (byte ∷ bytes)
    go true = refl
    go false = ap (λ p. drop (cond p 1 0) (byte ∷ bytes)) h

module _ (text : Text) (plain : (slice_index text 0 == 43) ≡ false) where
  abbrev number : ℤ
  number = signed_digits_value 10 text

  no_value : (b : Bool) → is_value (behind_minus text) number ≡ b → ¬ IsValue (behind_minus text) number → None ≡ cond b (Some number) None
  no_value false e h = refl
  no_value true e h = absurd (h (value_from (behind_minus text) number e))

  pub read_is : {E : Type 0} (r : Result ℤ E) → ParsesSigned w64 10 text r → result_ok r ≡ value_of text
  read_is (Ok z) h =
      let k : IsValue (behind_minus text) number = subst (λ ds. IsValue ds number) (same_digits text plain) h.0 in
      ap Some h.1 ∙ sym (ap (λ b. cond b (Some number) None) (value_back (behind_minus text) number k))
  read_is (Err e) h =
      no_value (is_value (behind_minus text) number) refl (λ k. h (subst (λ ds. IsValue ds number) (sym (same_digits text plain)) k))
