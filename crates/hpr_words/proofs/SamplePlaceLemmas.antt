-- Two numbers behind `sample` are plain.
use Rattle.std.proofs.Common.{◌≡◌, ℕ, ◌-◌, Bool, true, false, [], ◌∷◌, Some, None, cond, is_some, refl, sym, ap, true≢false, arith, codes}
use Rattle.std.specs.Prelude.{◌&&◌, nat_le}
use Rattle.std.specs.Str.Parse.{digits_value}
use Rattle.hpr_terms.specs.declared.limits.TheConstants.{MAX_PARTS}
use Rattle.clap.proofs.WalkLemmas.{both}
use Rattle.hpr_words.specs.Commands.{NumberOption, number_within}
use Rattle.hpr_words.specs.Plain.{is_name, is_numeral, number, plain}
use Rattle.hpr_words.specs.Request.{Text, sample}
use Rattle.hpr_words.proofs.FairLemmas.{is_name-digits, numbers_fair}

numeral_is_name : (word : Text) → is_numeral word ≡ true → is_name word ≡ true
numeral_is_name [] e = absurd (true≢false (sym e))
numeral_is_name (x ∷ xs) e = is_name-digits 0 x xs e

number_is_numeral : (most : ℕ) (word : Text) (n : ℕ) → number most word ≡ Some n → is_numeral word ≡ true
number_is_numeral most word n e = go (is_numeral word && (nat_le 1 (digits_value 10 word) && nat_le (digits_value 10 word) most)) refl e
  where
    go : (b : Bool) → (is_numeral word && (nat_le 1 (digits_value 10 word) && nat_le (digits_value 10 word) most)) ≡ b → cond b (Some (digits_value 10 word)) None ≡ Some n → is_numeral word ≡ true
    go false holds f = absurd (true≢false (ap is_some (sym f)))
    go true holds f = (both (is_numeral word) _ holds).0

abbrev parts_option : NumberOption
parts_option = record { id = []; most = MAX_PARTS - 2; default = None }

pub sample-plain : (seed parts : Text) (s n : ℕ) → is_numeral seed ≡ true → number_within 0 18446744073709551615 seed ≡ Some s
    → number (MAX_PARTS - 2) parts ≡ Some n → plain (codes "sample" ∷ seed ∷ parts ∷ []) ≡ Some (sample s n)
sample-plain seed parts s n numeral is so =
    let p : is_name seed ≡ true = numeral_is_name seed numeral in
    let too : is_numeral parts ≡ true = number_is_numeral (MAX_PARTS - 2) parts n so in
    let q : is_name parts ≡ true = numeral_is_name parts too in
    let within : number_within 1 (MAX_PARTS - 2) parts ≡ Some n = (numbers_fair parts_option (parts ∷ []) n (omega arith) so).is in
    rw (p, q, numeral, too, is, within) refl
