-- What words ask for is in range.
use Rattle.std.proofs.Common.{◌≡◌, ℕ, Bool, true, false, cond, List, [], ◌∷◌, length, map, nat_le, Option, Some, None, option_and_then, option_map, find, Result, Ok, Err, IfOk, refl, ap, subst, unwrap_or, arith, bytes_eq, codes}
use Rattle.std.specs.List.{list_all}
use Rattle.std.proofs.lemmas.Bool.{leb-true}
use Rattle.clap.specs.Walk.{is_empty}
use Rattle.clap.specs.Words.{Row, fault_of, first_of, matches_of}
use Rattle.hpr_terms.specs.declared.limits.TheConstants.{MAX_VARIANTS}
use Rattle.hpr_words.specs.Commands.{NumberOption, number_within}
use Rattle.hpr_words.specs.Request.{Text}
use Rattle.hpr_words.specs.Taken.{all_some, flag_in, number_in}
use Rattle.hpr_words.proofs.PieceLemmas.{Each, none_some}
use Rattle.hpr_words.proofs.UseLemmas.{found_passes}
use Rattle.hprkit_words.specs.Ask.{Ask, IsInRange, conflicts, format, merge, place}
use Rattle.hprkit_words.specs.Asked.{ask_of}
use Rattle.hprkit_words.specs.Commands.{Form, affected_form, asked_with, at_form, commands, conflicts_form, form_app, form_named, format_form, graph_form, impact_form, merge_form, tag_form}
use Rattle.hprkit_words.specs.Taken.{asked_in, commanded, listed_in, taken_by}
use Rattle.hprkit_words.specs.declared.asked.Asked.{Asked}
use Rattle.hprkit_words.specs.declared.forms.FormatForm.TheVariants as form
use Rattle.hprkit_words.proofs.NumberLemmas.{AreInRange, has_default_within, numbers-range}

abbrev AsksInRange : Form → Type 0
AsksInRange f = (words list : List Text) (ns : List ℕ) (flags : List Bool) (ask : Ask) → AreInRange f.numbers ns → f.asks words list ns flags ≡ Some ask → IsInRange ask

in_range : (asked ask : Ask) → IsInRange asked → Some asked ≡ Some ask → IsInRange ask
in_range asked ask range e = subst IsInRange (ap (λ o. unwrap_or o ask) e) range

format-range : AsksInRange format_form
format-range (file ∷ []) list ns (false ∷ false ∷ []) ask range e = in_range _ ask tt e
format-range (file ∷ []) list ns (true ∷ false ∷ []) ask range e = in_range _ ask tt e
format-range (file ∷ []) list ns (false ∷ true ∷ []) ask range e = go (bytes_eq file (codes "-")) e
  where
    go : (b : Bool) → cond b None (Some (format file form.InPlace)) ≡ Some ask → IsInRange ask
    go true f = absurd (none_some ask f)
    go false f = in_range _ ask tt f
format-range _ _ _ _ ask range e = absurd (none_some ask e)

at-range : AsksInRange at_form
at-range (file ∷ byte ∷ []) list ns flags ask range e = go (number_within 0 18446744073709551615 byte) e
  where
    go : (o : Option ℕ) → option_map (λ n. place file n) o ≡ Some ask → IsInRange ask
    go None f = absurd (none_some ask f)
    go (Some n) f = in_range _ ask tt f
at-range _ _ _ _ ask range e = absurd (none_some ask e)

tag-range : AsksInRange tag_form
tag-range (file ∷ []) list (n ∷ []) (keep ∷ []) ask range e = in_range _ ask tt e
tag-range _ _ _ _ ask range e = absurd (none_some ask e)

graph-range : AsksInRange graph_form
graph-range (file ∷ []) list ns (true ∷ false ∷ false ∷ false ∷ false ∷ []) ask range e = in_range _ ask tt e
graph-range (file ∷ []) list ns (false ∷ true ∷ control ∷ flow ∷ order ∷ []) ask range e = in_range _ ask tt e
graph-range _ _ _ _ ask range e = absurd (none_some ask e)

impact-range : AsksInRange impact_form
impact-range (file ∷ []) points ns (false ∷ false ∷ []) ask range e = in_range _ ask tt e
impact-range (file ∷ []) points ns (true ∷ false ∷ []) ask range e = in_range _ ask tt e
impact-range (file ∷ []) points ns (false ∷ true ∷ []) ask range e = in_range _ ask tt e
impact-range _ _ _ _ ask range e = absurd (none_some ask e)

affected-range : AsksInRange affected_form
affected-range (base ∷ variant ∷ []) list ns flags ask range e = in_range _ ask tt e
affected-range _ _ _ _ ask range e = absurd (none_some ask e)

conflicts-range : AsksInRange conflicts_form
conflicts-range (base ∷ []) (a ∷ b ∷ more) ns flags ask range e = go (nat_le (length (a ∷ b ∷ more)) MAX_VARIANTS) refl e
  where
    go : (few : Bool) → nat_le (length (a ∷ b ∷ more)) MAX_VARIANTS ≡ few → cond few (Some (conflicts base (a ∷ b ∷ more))) None ≡ Some ask → IsInRange ask
    go true few f = in_range _ ask (omega arith, leb-true _ _ few) f
    go false few f = absurd (none_some ask f)
conflicts-range _ _ _ _ ask range e = absurd (none_some ask e)

merge-range : AsksInRange merge_form
merge-range (base ∷ []) (a ∷ b ∷ more) (n ∷ []) flags ask range e = go (nat_le (length (a ∷ b ∷ more)) MAX_VARIANTS) refl e
  where
    go : (few : Bool) → nat_le (length (a ∷ b ∷ more)) MAX_VARIANTS ≡ few → cond few (Some (merge base (a ∷ b ∷ more) n)) None ≡ Some ask → IsInRange ask
    go true few f = in_range _ ask (omega arith, leb-true _ _ few, range.0.0, range.0.1) f
    go false few f = absurd (none_some ask f)
merge-range _ _ _ _ ask range e = absurd (none_some ask e)

each_in_range : Each AsksInRange commands
each_in_range = (format-range, (at-range, (tag-range, (graph-range, (impact-range, (affected-range, (conflicts-range, (merge-range, tt))))))))

-- what is so of each is so of the one that is found
found_each : (p : Form → Bool) (fs : List Form) (f : Form) → Each AsksInRange fs → find p fs ≡ Some f → AsksInRange f
found_each p [] f each e = absurd (none_some f e)
found_each p (g ∷ fs) f each e = go (p g) (λ h. found_each p fs f each.1 h) e
  where
    go : (b : Bool) → (find p fs ≡ Some f → AsksInRange f) → cond b (Some g) (find p fs) ≡ Some f → AsksInRange f
    go true later h = subst AsksInRange (ap (λ o. unwrap_or o g) h) each.0
    go false later h = later h

named-range : (name : Text) (f : Form) → form_named name ≡ Some f → AsksInRange f
named-range name f named = found_each (λ (other : Form). bytes_eq name other.name) commands f each_in_range named

defaults_within : list_all (λ (f : Form). list_all has_default_within f.numbers) commands ≡ true
defaults_within = refl

asked-range : (f : Form) → AsksInRange f → list_all has_default_within f.numbers ≡ true → (rows : List Row) (ask : Ask) → asked_in f rows ≡ Some ask → IsInRange ask
asked-range f asks within rows ask e =
    go (all_some (map (λ id. first_of id rows) f.words)) (all_some (map (λ (option : NumberOption). number_in option rows) f.numbers)) refl e
  where
    go : (words : Option (List Text)) (numbers : Option (List ℕ)) → all_some (map (λ (option : NumberOption). number_in option rows) f.numbers) ≡ numbers
        → asked_with f words (listed_in f.list rows) numbers (map (λ id. flag_in id rows) f.flags) ≡ Some ask → IsInRange ask
    go (Some words) (Some ns) told h = asks words (listed_in f.list rows) ns (map (λ id. flag_in id rows) f.flags) ask (numbers-range rows f.numbers ns within told) h
    go (Some words) None told h = absurd (none_some ask h)
    go None numbers told h = absurd (none_some ask h)

taken-range : (name : Text) (f : Form) → form_named name ≡ Some f → (words : List Text) (ask : Ask) → taken_by f words ≡ Some ask → IsInRange ask
taken-range name f named words ask e = go (is_empty (fault_of (form_app f) words)) e
  where
    go : (b : Bool) → cond b (asked_in f (matches_of (form_app f) words)) None ≡ Some ask → IsInRange ask
    go true h =
        asked-range f (named-range name f named)
        (found_passes (λ (other : Form). bytes_eq name other.name) (λ (other : Form). list_all has_default_within other.numbers) commands f named defaults_within)
        (matches_of (form_app f) words) ask h
    go false h = absurd (none_some ask h)

commanded-range : (words : List Text) (ask : Ask) → commanded words ≡ Some ask → IsInRange ask
commanded-range [] ask e = absurd (none_some ask e)
commanded-range (command ∷ words) ask e = go (form_named command) refl e
  where
    go : (o : Option Form) → form_named command ≡ o → option_and_then (λ f. taken_by f (command ∷ words)) o ≡ Some ask → IsInRange ask
    go None named h = absurd (none_some ask h)
    go (Some f) named h = taken-range command f named (command ∷ words) ask h

pub ok-range : {E : Type 0} (words : List Text) (r : Result Asked E) → IfOk r (λ a. commanded words ≡ Some (ask_of a)) → IfOk r (λ a. IsInRange (ask_of a))
ok-range words (Ok a) h = commanded-range words (ask_of a) h
ok-range words (Err e) h = tt
