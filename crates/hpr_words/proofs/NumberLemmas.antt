-- The number that `parse` reads is the one that the text spells.
use Rattle.std.proofs.Common.{◌≡◌, ◌∙◌, ◌<◌, ◌≤◌, ◌^◌, ℕ, Bool, true, false, List, Some, None, refl, sym, ap, arith, cond}
use Rattle.std.specs.Str.Parse.{IsNumeral, digits_value, without_leading_plus}
use Rattle.clap.specs.ValueTests.{accepts}
use Rattle.clap.specs.declared.builder.value_parser.ValueParser.TheVariants.{Unsigned}
use Rattle.clap.proofs.ValueTestLemmas.{accepts-Accepts, Accepts-accepts}
use Rattle.hpr_words.specs.Commands.{number_within}

pub number_within-Ok : (least most n : ℕ) (text : List ℕ)
    → (IsNumeral 10 (without_leading_plus text) × (digits_value 10 (without_leading_plus text) < 2 ^ 64)) × (n ≡ digits_value 10 (without_leading_plus text))
    → least ≤ n → n ≤ most → Some n ≡ number_within least most text
number_within-Ok least most n text h low high =
    let test : accepts false (Unsigned least most) text ≡ true = Accepts-accepts false (Unsigned least most) text (h.0.0, h.0.1, omega (arith, h.1, low), omega (arith, h.1, high)) in
    sym (ap (λ b. cond b (Some (digits_value 10 (without_leading_plus text))) None) test ∙ ap Some (sym h.1))

pub number_within-Err : (least most : ℕ) (text : List ℕ)
    → (IsNumeral 10 (without_leading_plus text) × (digits_value 10 (without_leading_plus text) < 2 ^ 64) → ⊥) → None ≡ number_within least most text
number_within-Err least most text h = go (accepts false (Unsigned least most) text) refl
  where
    go : (b : Bool) → accepts false (Unsigned least most) text ≡ b → None ≡ cond b (Some (digits_value 10 (without_leading_plus text))) None
    go false t = refl
    go true t = let a = accepts-Accepts false (Unsigned least most) text t in absurd (h (a.0, a.1))
