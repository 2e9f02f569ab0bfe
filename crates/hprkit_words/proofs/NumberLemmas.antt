-- The numbers of options are in their ranges.
use Rattle.std.proofs.Common.{◌≡◌, ◌≤◌, ℕ, Bool, true, false, cond, List, [], ◌∷◌, map, Option, Some, None, refl, ap, subst, arith, option_and_then, option_map, unwrap_or}
use Rattle.std.specs.Prelude.{◌&&◌, nat_le}
use Rattle.std.specs.List.{list_all}
use Rattle.std.specs.Option.{option_map_or}
use Rattle.std.specs.Str.Parse.{digits_value, without_leading_plus}
use Rattle.std.proofs.lemmas.Bool.{leb-true}
use Rattle.clap.proofs.ValueTestLemmas.{accepts-Accepts}
use Rattle.clap.proofs.WalkLemmas.{both}
use Rattle.clap.specs.ValueTests.{accepts}
use Rattle.clap.specs.Words.{Row, first_of}
use Rattle.clap.specs.declared.builder.value_parser.ValueParser.TheVariants.{Unsigned}
use Rattle.hpr_words.specs.Commands.{NumberOption, number_within}
use Rattle.hpr_words.specs.Request.{Text}
use Rattle.hpr_words.specs.Taken.{all_some, number_in, number_or}
use Rattle.hpr_words.proofs.PieceLemmas.{none_some}

within-range : (least most : ℕ) (text : Text) (n : ℕ) → number_within least most text ≡ Some n → (least ≤ n) × (n ≤ most)
within-range least most text n e = go (accepts false (Unsigned least most) text) refl e
  where
    go : (b : Bool) → accepts false (Unsigned least most) text ≡ b → cond b (Some (digits_value 10 (without_leading_plus text))) None ≡ Some n → (least ≤ n) × (n ≤ most)
    go false t f = absurd (none_some n f)
    go true t f =
        let a = accepts-Accepts false (Unsigned least most) text t in
        let is : digits_value 10 (without_leading_plus text) ≡ n = ap (λ o. unwrap_or o n) f in
        (omega (arith, is, a.2), omega (arith, is, a.3))

-- the default, if there is one, is in the option's range
abbrev pub has_default_within : NumberOption → Bool
has_default_within option = option_map_or (λ n. nat_le 1 n && nat_le n option.most) option.default true

given-range : (most : ℕ) (default : Option ℕ) (o : Option Text) (n : ℕ) → option_map_or (λ n. nat_le 1 n && nat_le n most) default true ≡ true
    → number_or default most o ≡ Some n → (1 ≤ n) × (n ≤ most)
given-range most None None n within e = absurd (none_some n e)
given-range most (Some default) None n within e =
    let is : default ≡ n = ap (λ o. unwrap_or o n) e in
    let parts = both (nat_le 1 default) _ within in
    (omega (arith, is, leb-true _ _ parts.0), omega (arith, is, leb-true _ _ parts.1))
given-range most default (Some text) n within e = within-range 1 most text n e

-- each number is in its option's range
abbrev pub AreInRange : List NumberOption → List ℕ → Type 0
AreInRange [] ns = Unit {0}
AreInRange (option ∷ options) [] = Unit {0}
AreInRange (option ∷ options) (n ∷ ns) = ((1 ≤ n) × (n ≤ option.most)) × AreInRange options ns

abbrev numbers_in : List NumberOption → List Row → Option (List ℕ)
numbers_in options rows = all_some (map (λ (option : NumberOption). number_in option rows) options)

pub numbers-range : (rows : List Row) (options : List NumberOption) (ns : List ℕ) → list_all has_default_within options ≡ true → numbers_in options rows ≡ Some ns
    → AreInRange options ns
numbers-range rows [] ns within e = tt
numbers-range rows (option ∷ options) ns within e = go (number_in option rows) refl (numbers_in options rows) refl (λ zs f. numbers-range rows options zs parts.1 f) e
  where
    parts : (has_default_within option ≡ true) × (list_all has_default_within options ≡ true)
    parts = both (has_default_within option) _ within

    go : (o : Option ℕ) → number_in option rows ≡ o → (os : Option (List ℕ)) → numbers_in options rows ≡ os
        → ((zs : List ℕ) → numbers_in options rows ≡ Some zs → AreInRange options zs)
        → option_and_then (λ n. option_map (λ zs. n ∷ zs) os) o ≡ Some ns → AreInRange (option ∷ options) ns
    go None here os there later f = absurd (none_some ns f)
    go (Some n) here None there later f = absurd (none_some ns f)
    go (Some n) here (Some zs) there later f =
        subst (AreInRange (option ∷ options)) (ap (λ o. unwrap_or o ns) f)
        (given-range option.most option.default (first_of option.id rows) n parts.0 here, later zs there)
