-- The numbers of what is taken are in their range.
use Rattle.std.proofs.Common.{◌≡◌, ◌≤◌, ℕ, ◌-◌, Bool, true, false, cond, find, List, [], ◌∷◌, length, map, Option, Some, None, Result, Ok, Err, IfOk, refl, ap, subst, bytes_eq, arith, option_and_then, option_map, unwrap_or}
use Rattle.std.specs.Prelude.{◌&&◌, nat_le}
use Rattle.std.specs.List.{list_all}
use Rattle.std.specs.Option.{option_map_or}
use Rattle.std.specs.Str.Parse.{digits_value, without_leading_plus}
use Rattle.std.proofs.lemmas.Bool.{leb-true}
use Rattle.clap.proofs.ValueTestLemmas.{accepts-Accepts}
use Rattle.clap.proofs.WalkLemmas.{both}
use Rattle.clap.specs.ValueTests.{accepts}
use Rattle.clap.specs.Walk.{is_empty}
use Rattle.clap.specs.Words.{Row, fault_of, first_of, matches_of}
use Rattle.clap.specs.declared.builder.value_parser.ValueParser.TheVariants.{Unsigned}
use Rattle.hpr_terms.specs.declared.limits.TheConstants.{MAX_PARTS, MAX_VARIANTS}
use Rattle.hpr_words.specs.Commands.{Form, NumberOption, affected_form, asked_with, commands, edit_form, form_app, form_named, graph_form, integrate_form, number_within, run_form, sample_form, slice_form, tag_form, trial_form, verify_form}
use Rattle.hpr_words.specs.Request.{IsInRange, Request, Text, sample}
use Rattle.hpr_words.specs.Taken.{all_some, asked_in, flag_in, listed_in, number_in, number_or, taken_by}
use Rattle.hpr_words.proofs.CommandLemmas.{if_so}
use Rattle.hpr_words.proofs.PieceLemmas.{Each, none_some}
use Rattle.hpr_words.proofs.UseLemmas.{found_passes}

number_within-range : (least most : ℕ) (text : Text) (n : ℕ) → number_within least most text ≡ Some n → (least ≤ n) × (n ≤ most)
number_within-range least most text n e = go (accepts false (Unsigned least most) text) refl e
  where
    go : (b : Bool) → accepts false (Unsigned least most) text ≡ b → cond b (Some (digits_value 10 (without_leading_plus text))) None ≡ Some n → (least ≤ n) × (n ≤ most)
    go false t f = absurd (none_some n f)
    go true t f =
        let a = accepts-Accepts false (Unsigned least most) text t in
        let is : digits_value 10 (without_leading_plus text) ≡ n = ap (λ o. unwrap_or o n) f in
        (omega (arith, is, a.2), omega (arith, is, a.3))

-- the default, if there is one, is in the option's range
abbrev has_default_within : NumberOption → Bool
has_default_within option = option_map_or (λ n. nat_le 1 n && nat_le n option.most) option.default true

number_or-range : (most : ℕ) (default : Option ℕ) (o : Option Text) (n : ℕ) → option_map_or (λ n. nat_le 1 n && nat_le n most) default true ≡ true
    → number_or default most o ≡ Some n → (1 ≤ n) × (n ≤ most)
number_or-range most None None n within e = absurd (none_some n e)
number_or-range most (Some default) None n within e =
    let is : default ≡ n = ap (λ o. unwrap_or o n) e in
    let parts = both (nat_le 1 default) _ within in
    (omega (arith, is, leb-true _ _ parts.0), omega (arith, is, leb-true _ _ parts.1))
number_or-range most default (Some text) n within e = number_within-range 1 most text n e

-- each number is in its option's range
abbrev AreInRange : List NumberOption → List ℕ → Type 0
AreInRange [] ns = Unit {0}
AreInRange (option ∷ options) [] = Unit {0}
AreInRange (option ∷ options) (n ∷ ns) = ((1 ≤ n) × (n ≤ option.most)) × AreInRange options ns

numbers-range : (rows : List Row) (options : List NumberOption) (ns : List ℕ) → list_all has_default_within options ≡ true
    → all_some (map (λ (option : NumberOption). number_in option rows) options) ≡ Some ns → AreInRange options ns
numbers-range rows [] ns within e = tt
numbers-range rows (option ∷ options) ns within e = go (number_in option rows) refl (all_some (map (λ (o : NumberOption). number_in o rows) options)) refl (λ zs f. numbers-range rows options zs parts.1 f) e
  where
    parts : (has_default_within option ≡ true) × (list_all has_default_within options ≡ true)
    parts = both (has_default_within option) _ within

    go : (o : Option ℕ) → number_in option rows ≡ o → (os : Option (List ℕ)) → all_some (map (λ (o : NumberOption). number_in o rows) options) ≡ os
        → ((zs : List ℕ) → all_some (map (λ (o : NumberOption). number_in o rows) options) ≡ Some zs → AreInRange options zs)
        → option_and_then (λ n. option_map (λ zs. n ∷ zs) os) o ≡ Some ns → AreInRange (option ∷ options) ns
    go None here os there later f = absurd (none_some ns f)
    go (Some n) here None there later f = absurd (none_some ns f)
    go (Some n) here (Some zs) there later f =
        subst (AreInRange (option ∷ options)) (ap (λ o. unwrap_or o ns) f)
        (number_or-range option.most option.default (first_of option.id rows) n parts.0 here, later zs there)

-- what a command asks for is in range where its numbers are
abbrev AsksInRange : Form → Type 0
AsksInRange form = (words list : List Text) (ns : List ℕ) (flags : List Bool) (r : Request) → AreInRange form.numbers ns → form.asks words list ns flags ≡ Some r → IsInRange r

in_range : (q r : Request) → IsInRange q → Some q ≡ Some r → IsInRange r
in_range q r range e = subst IsInRange (ap (λ o. unwrap_or o r) e) range

integrate-range : AsksInRange integrate_form
integrate-range (base ∷ []) (a ∷ b ∷ []) (n ∷ []) flags r range e = in_range _ r range.0 e
integrate-range (base ∷ []) (a ∷ b ∷ c ∷ more) (n ∷ []) flags r range e =
    let few = if_so (nat_le (length (a ∷ b ∷ c ∷ more)) MAX_VARIANTS) _ r e in
    in_range _ r (omega arith, leb-true _ _ few.0, range.0.0, range.0.1) few.1
integrate-range _ _ _ _ r range e = absurd (none_some r e)

run-range : AsksInRange run_form
run-range (file ∷ []) states (n ∷ []) (trace ∷ []) r range e = in_range _ r range.0 e
run-range _ _ _ _ r range e = absurd (none_some r e)

graph-range : AsksInRange graph_form
graph-range (file ∷ []) list ns (json ∷ []) r range e = in_range _ r tt e
graph-range _ _ _ _ r range e = absurd (none_some r e)

slice-range : AsksInRange slice_form
slice-range (file ∷ []) (point ∷ points) ns (program ∷ []) r range e = in_range _ r (omega arith) e
slice-range _ _ _ _ r range e = absurd (none_some r e)

affected-range : AsksInRange affected_form
affected-range (base ∷ a ∷ []) list ns flags r range e = in_range _ r tt e
affected-range _ _ _ _ r range e = absurd (none_some r e)

trial-range : AsksInRange trial_form
trial-range (base ∷ a ∷ b ∷ []) states (n ∷ []) flags r range e = in_range _ r range.0 e
trial-range _ _ _ _ r range e = absurd (none_some r e)

edit-range : AsksInRange edit_form
edit-range (file ∷ script ∷ []) list (n ∷ []) flags r range e = in_range _ r range.0 e
edit-range _ _ _ _ r range e = absurd (none_some r e)

tag-range : AsksInRange tag_form
tag-range (file ∷ []) list (n ∷ []) flags r range e = in_range _ r range.0 e
tag-range _ _ _ _ r range e = absurd (none_some r e)

sample-range : AsksInRange sample_form
sample-range (seed ∷ parts ∷ []) list ns flags r range e = go (number_within 0 18446744073709551615 seed) refl (number_within 1 (MAX_PARTS - 2) parts) refl e
  where
    go : (s : Option ℕ) → number_within 0 18446744073709551615 seed ≡ s → (n : Option ℕ) → number_within 1 (MAX_PARTS - 2) parts ≡ n
        → option_and_then (λ s. option_map (λ n. sample s n) n) s ≡ Some r → IsInRange r
    go None is n so f = absurd (none_some r f)
    go (Some s) is None so f = absurd (none_some r f)
    go (Some s) is (Some n) so f =
        let small = number_within-range 0 18446744073709551615 seed s is in
        let few = number_within-range 1 (MAX_PARTS - 2) parts n so in
        in_range (sample s n) r (omega (arith, small.1), few.0, omega (arith, few.1)) f
sample-range _ _ _ _ r range e = absurd (none_some r e)

verify-range : AsksInRange verify_form
verify-range (base ∷ a ∷ b ∷ offered ∷ []) list ns flags r range e = in_range _ r tt e
verify-range _ _ _ _ r range e = absurd (none_some r e)

each_in_range : Each AsksInRange commands
each_in_range = (integrate-range, (run-range, (graph-range, (slice-range, (affected-range, (trial-range, (edit-range, (tag-range, (sample-range, (verify-range, tt))))))))))

-- what is so of each is so of the one that is found
found_each : {X : Type 0} (P : X → Type 0) (p : X → Bool) (xs : List X) (x : X) → Each P xs → find p xs ≡ Some x → P x
found_each P p [] x each e = absurd (none_some x e)
found_each P p (y ∷ ys) x each e = go (p y) (λ f. found_each P p ys x each.1 f) e
  where
    go : (b : Bool) → (find p ys ≡ Some x → P x) → cond b (Some y) (find p ys) ≡ Some x → P x
    go true later f = subst P (ap (λ o. unwrap_or o y) f) each.0
    go false later f = later f

defaults_within : list_all (λ (form : Form). list_all has_default_within form.numbers) commands ≡ true
defaults_within = refl

asked_in-range : (form : Form) → AsksInRange form → list_all has_default_within form.numbers ≡ true → (rows : List Row) (r : Request) → asked_in form rows ≡ Some r → IsInRange r
asked_in-range form asks within rows r e =
    go (all_some (map (λ id. first_of id rows) form.words)) (all_some (map (λ (option : NumberOption). number_in option rows) form.numbers)) refl e
  where
    go : (words : Option (List Text)) (numbers : Option (List ℕ)) → all_some (map (λ (option : NumberOption). number_in option rows) form.numbers) ≡ numbers
        → asked_with form words (listed_in form.list rows) numbers (Some (map (λ id. flag_in id rows) form.flags)) ≡ Some r → IsInRange r
    go (Some words) (Some ns) told f = asks words (listed_in form.list rows) ns (map (λ id. flag_in id rows) form.flags) r (numbers-range rows form.numbers ns within told) f
    go words numbers told f = absurd (none_some r f)

pub taken-range : (name : Text) (form : Form) → form_named name ≡ Some form → (words : List Text) (r : Request) → taken_by form words ≡ Some r → IsInRange r
taken-range name form named words r e = go (is_empty (fault_of (form_app form) words)) e
  where
    go : (b : Bool) → cond b (asked_in form (matches_of (form_app form) words)) None ≡ Some r → IsInRange r
    go true f =
        asked_in-range form (found_each AsksInRange (λ (other : Form). bytes_eq name other.name) commands form each_in_range named)
        (found_passes (λ (other : Form). bytes_eq name other.name) (λ (other : Form). list_all has_default_within other.numbers) commands form named defaults_within) (matches_of (form_app form) words) r f
    go false f = absurd (none_some r f)

pub IfOk-range : {X E : Type 0} (f : X → Request) (r : Result X E) (asked : Option Request) → ((q : Request) → asked ≡ Some q → IsInRange q)
    → IfOk r (λ x. asked ≡ Some (f x)) → IfOk r (λ x. IsInRange (f x))
IfOk-range f (Ok x) asked range h = range (f x) h
IfOk-range f (Err e) asked range h = h
