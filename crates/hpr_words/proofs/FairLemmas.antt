-- Plain numbers are numbers to `clap`, with the same value.
use Rattle.std.proofs.Common.{◌≡◌, ◌∙◌, ◌<◌, ◌^◌, ℕ, Bool, true, false, cond, List, [], ◌∷◌, Some, None, is_some, length, slice_get, drop, refl, sym, ap, ap₂, arith, true≢false}
use Rattle.std.specs.Prelude.{◌&&◌, ◌||◌, ◌==◌, not, nat_le, nat_lt}
use Rattle.std.specs.List.{list_all}
use Rattle.std.specs.Char.{is_digit}
use Rattle.std.specs.Str.Parse.{digits_value, without_leading_plus}
use Rattle.std.proofs.lemmas.Bool.{eqb-true, leb-true, lt-ltb}
use Rattle.clap.proofs.WalkLemmas.{both}
use Rattle.clap.specs.Walk.{Text}
use Rattle.clap.specs.ValueTests.{accepts}
use Rattle.clap.specs.declared.builder.value_parser.ValueParser.TheVariants.{Unsigned}
use Rattle.hpr_words.specs.Commands.{NumberOption}
use Rattle.hpr_words.specs.Plain.{is_name, is_numeral, number, plain_number}
use Rattle.hpr_words.specs.Taken.{number_or}

-- what `clap` makes of the words that give an option its number
pub record IsFair (option : NumberOption) (words : List Text) (n : ℕ) : Type 0 where
  pub passes : list_all (λ w. is_name w && accepts false (Unsigned 1 option.most) w) words ≡ true
  pub once : nat_le (length words) 1 ≡ true
  pub stands : (is_some option.default || is_some (slice_get words 0)) ≡ true
  pub is : number_or option.default option.most (slice_get words 0) ≡ Some n

digits_of : (word : Text) → is_numeral word ≡ true → list_all (λ d. is_digit d 10) word ≡ true
digits_of [] e = refl
digits_of (d ∷ []) e = ap (λ b. b && true) e
digits_of (d ∷ c ∷ ds) e = (both (not (d == 48)) _ e).1

-- a byte that is no digit doesn't begin digits
begins_other : (other x : ℕ) → is_digit other 10 ≡ false → is_digit x 10 ≡ true → (x == other) ≡ false
begins_other other x miss e = go (x == other) refl
  where
    go : (b : Bool) → (x == other) ≡ b → b ≡ false
    go false f = refl
    go true f = absurd (true≢false (sym e ∙ (ap (λ d. is_digit d 10) (eqb-true x other f) ∙ miss)))

module _ (most : ℕ) (x : ℕ) (xs : Text) (numeral : is_numeral (x ∷ xs) ≡ true) where
  digits : list_all (λ d. is_digit d 10) (x ∷ xs) ≡ true
  digits = digits_of (x ∷ xs) numeral

  first_digit : is_digit x 10 ≡ true
  first_digit = (both (is_digit x 10) _ digits).0

  pub is_name-digits : is_name (x ∷ xs) ≡ true
  is_name-digits = ap not (begins_other 45 x refl first_digit)

  pub without_leading_plus-digits : without_leading_plus (x ∷ xs) ≡ x ∷ xs
  without_leading_plus-digits = ap (λ b. drop (cond b 1 0) (x ∷ xs)) (begins_other 43 x refl first_digit)

  module _ (low : nat_le 1 (digits_value 10 (x ∷ xs)) ≡ true) (high : nat_le (digits_value 10 (x ∷ xs)) most ≡ true) (fits : most < 2 ^ 64) where
    pub accepts-digits : accepts false (Unsigned 1 most) (x ∷ xs) ≡ true
    accepts-digits =
        let n = digits_value 10 (x ∷ xs) in
        let below : nat_lt n (2 ^ 64) ≡ true = lt-ltb n (2 ^ 64) (omega (arith, leb-true _ _ high, fits)) in
        let some : nat_lt 0 (length (x ∷ xs)) ≡ true = lt-ltb 0 (length (x ∷ xs)) (omega arith) in
        rw (without_leading_plus-digits, some, digits, below, low, high) refl

or_true : (b : Bool) → (b || true) ≡ true
or_true true = refl
or_true false = refl

number_fair : (option : NumberOption) (word : Text) (n : ℕ) → option.most < 2 ^ 64 → number option.most word ≡ Some n → IsFair option (word ∷ []) n
number_fair option [] n fits e = absurd (true≢false (ap is_some (sym e)))
number_fair option (x ∷ xs) n fits e = go (is_numeral (x ∷ xs) && (nat_le 1 (digits_value 10 (x ∷ xs)) && nat_le (digits_value 10 (x ∷ xs)) option.most)) refl e
  where
    go : (b : Bool) → (is_numeral (x ∷ xs) && (nat_le 1 (digits_value 10 (x ∷ xs)) && nat_le (digits_value 10 (x ∷ xs)) option.most)) ≡ b
        → cond b (Some (digits_value 10 (x ∷ xs))) None ≡ Some n → IsFair option ((x ∷ xs) ∷ []) n
    go false holds f = absurd (true≢false (ap is_some (sym f)))
    go true holds f =
        let parts = both (is_numeral (x ∷ xs)) _ holds in
        let range = both _ _ parts.1 in
        let accepted : accepts false (Unsigned 1 option.most) (x ∷ xs) ≡ true = accepts-digits option.most x xs parts.0 range.0 range.1 fits in
        record {
          passes = ap₂ (λ b c. (b && c) && true) (is_name-digits option.most x xs parts.0) accepted;
          once = refl;
          stands = or_true (is_some option.default);
          is = ap (λ b. cond b (Some (digits_value 10 (without_leading_plus (x ∷ xs)))) None) accepted
              ∙ (ap (λ w. Some (digits_value 10 w)) (without_leading_plus-digits option.most x xs parts.0) ∙ f);
        }

pub numbers_fair : (option : NumberOption) (words : List Text) (n : ℕ) → option.most < 2 ^ 64 → plain_number option words ≡ Some n → IsFair option words n
numbers_fair option [] n fits e = record { passes = refl; once = refl; stands = ap (λ o. is_some o || false) e; is = e }
numbers_fair option (w ∷ []) n fits e = number_fair option w n fits e
numbers_fair option (w ∷ x ∷ ws) n fits e = absurd (true≢false (ap is_some (sym e)))
