-- Items used in any order: each passes, and the rows hold what the items give.
use Rattle.std.proofs.Common.{◌≡◌, ◌∙◌, ◌≤◌, ◌⊎◌, inl, inr, ℕ, Bool, true, false, cond, List, [], ◌∷◌, ◌++◌, Some, is_some, find, slice_get, length, refl, sym, ap, ap₂, append_assoc, append-nil, length-append, arith, bytes_eq, true≢false, unwrap_or, ◌+◌}
use Rattle.std.specs.Prelude.{◌&&◌, ◌||◌, not, nat_le}
use Rattle.std.specs.List.{fold, list_all, list_any}
use Rattle.std.proofs.lemmas.Bool.{leb-true}
use Rattle.clap.proofs.SimpleLemmas.{is_nil}
use Rattle.clap.proofs.WalkLemmas.{both}
use Rattle.clap.specs.declared.builder.action.ArgAction.TheVariants.{Append, Set, SetTrue}
use Rattle.clap.specs.declared.error.kind.ErrorKind.TheVariants.{ArgumentConflict}
use Rattle.clap.specs.Values.{refused_kind}
use Rattle.clap.specs.declared.parser.matches.ValueSource.TheVariants.{CommandLine}
use Rattle.clap.specs.Facts.{parser_of_value, unwrap_or_range}
use Rattle.clap.specs.Faults.{action_fault, built_fault, check_fault, defaults_fault, given_default_fault, use_fault, values_fault}
use Rattle.clap.specs.Kinds.{Kinds, or_else, range_kinds}
use Rattle.clap.specs.Simple.{Shape}
use Rattle.clap.specs.Takes.{is_given, value_passes}
use Rattle.clap.specs.Walk.{Row, Rule, Text, action_of, arg_by_id, has_row, is_append, is_empty, most_values, nothing_held, reading_by, rows_after, used, used_as, with_default, with_values, without}
use Rattle.hpr_words.proofs.Items.{Item, flag, item_put, item_rule, item_values, is_plain, place_after, rows_from, valued, word, words_of}
use Rattle.hpr_words.proofs.ItemLemmas.{AreTaken, Fits, items_taken}
use Rattle.hpr_words.proofs.StepLemmas.{IsFlag, IsOption, IsPositional}
use Rattle.hpr_words.proofs.RowLemmas.{added, defaults_of, entry, entry-with_default, entry-with_values, has_row-none, is_given-entry, kept, same_text, told}

-- a use may come where it is no second one
abbrev pub MayCome : Rule → List Row → Type 0
MayCome a rows = is_append (action_of a) ≡ false → has_row a.id rows ≡ false

-- a use of the argument has one value
pub record IsOfOne (a : Rule) : Type 0 where
  pub least : (unwrap_or_range a.range).start_inclusive ≡ 1
  pub most : most_values a ≡ 1
  pub action : (action_of a ≡ Set) ⊎ (action_of a ≡ Append)

module _ (again : Bool) (a : Rule) (v : Text) (rows : List Row) (one : IsOfOne a) (passes : value_passes a v ≡ true) (may : MayCome a rows) where
  pub use_fault-one : use_fault again a (v ∷ []) rows ≡ []
  use_fault-one = ap₂ (λ l m. or_else (range_kinds l m 1) (action_fault (action_of a) again a (v ∷ []) rows)) one.least one.most ∙ elim one.action [
    | inl set ↦
        let new : has_row a.id rows ≡ false = may (ap is_append set) in
        ap (λ x. action_fault x again a (v ∷ []) rows) set ∙ rw (new, passes) refl
    | inr more ↦ ap (λ x. action_fault x again a (v ∷ []) rows) more ∙ rw (passes) refl
  ]

without-none : (id : Text) (rows : List Row) → has_row id rows ≡ false → without id rows ≡ rows
without-none id [] miss = refl
without-none id (r ∷ rows) miss = go (without-none id rows) (bytes_eq r.id id) refl miss
  where
    go : (has_row id rows ≡ false → without id rows ≡ rows) → (b : Bool) → bytes_eq r.id id ≡ b → (b || has_row id rows) ≡ false → without id (r ∷ rows) ≡ r ∷ rows
    go later true e miss = absurd (true≢false miss)
    go later false e miss = rw (e) (ap (λ rs. r ∷ rs) (later miss))

pub used-one : (a : Rule) (v : Text) (rows : List Row) → IsOfOne a → MayCome a rows → used a (v ∷ []) rows ≡ with_values a.id (reading_by a) CommandLine (v ∷ []) rows
used-one a v rows one may = elim one.action [
  | inl set ↦ ap (λ x. used_as x a.id (reading_by a) (v ∷ []) rows) set ∙ ap (with_values a.id (reading_by a) CommandLine (v ∷ [])) (without-none a.id rows (may (ap is_append set)))
  | inr more ↦ ap (λ x. used_as x a.id (reading_by a) (v ∷ []) rows) more
]

-- a use of the flag has no value, and leaves those that stand for it
pub record IsOfNone (a : Rule) : Type 0 where
  pub least : (unwrap_or_range a.range).start_inclusive ≡ 0
  pub most : most_values a ≡ 0
  pub action : action_of a ≡ SetTrue
  pub passes : list_all (value_passes a) a.missing ≡ true

values_fault-passes : (a : Rule) (vs : List Text) → list_all (value_passes a) vs ≡ true → values_fault a vs ≡ []
values_fault-passes a [] all = refl
values_fault-passes a (v ∷ vs) all =
    let parts = both (value_passes a v) _ all in
    ap₂ or_else (ap (λ b. cond b [] (refused_kind (parser_of_value a.parser) ∷ [])) parts.0) (values_fault-passes a vs parts.1)

module _ (a : Rule) (rows : List Row) (flag : IsOfNone a) (may : MayCome a rows) where
  new_flag : has_row a.id rows ≡ false
  new_flag = may (ap is_append flag.action)

  pub use_fault-none : (again : Bool) → use_fault again a [] rows ≡ []
  use_fault-none again =
      ap₂ (λ l m. or_else (range_kinds l m 0) (action_fault (action_of a) again a a.missing rows)) flag.least flag.most
      ∙ (ap (λ x. action_fault x again a a.missing rows) flag.action
      ∙ ap₂ (λ b k. or_else (cond (b && not again) (ArgumentConflict ∷ []) []) k) new_flag (values_fault-passes a a.missing flag.passes))

  pub used-none : used a [] rows ≡ with_values a.id (reading_by a) CommandLine a.missing rows
  used-none =
      ap (λ x. used_as x a.id (reading_by a) a.missing rows) flag.action
      ∙ ap (with_values a.id (reading_by a) CommandLine a.missing) (without-none a.id rows new_flag)

-- the item passes wherever it may come, and leaves its values
pub record Passes (s : Shape) (item : Item) : Type 0 where
  pub by_id : arg_by_id s.rules (item_rule item).id ≡ Some (item_rule item)
  pub first : Text
  pub rest : List Text
  pub puts : item_put item ≡ first ∷ rest
  pub quiet : (rows : List Row) → MayCome (item_rule item) rows → use_fault s.args_override_self (item_rule item) (item_values item) rows ≡ []
  pub leaves : (rows : List Row) → MayCome (item_rule item) rows
      → used (item_rule item) (item_values item) rows ≡ with_values (item_rule item).id (reading_by (item_rule item)) CommandLine (item_put item) rows

module _ (s : Shape) (a : Rule) where
  pub word_passes : (position : ℕ) (v : Text) → IsPositional s position a → IsOfOne a → value_passes a v ≡ true → Passes s (word a v)
  word_passes position v is one passes = record {
    by_id = is.by_id;
    first = v;
    rest = [];
    puts = refl;
    quiet = λ rows may. use_fault-one s.args_override_self a v rows one passes may;
    leaves = λ rows may. used-one a v rows one may;
  }

  pub valued_passes : (dashed name v : Text) → IsOption s dashed name a → IsOfOne a → value_passes a v ≡ true → Passes s (valued a dashed name v)
  valued_passes dashed name v is one passes = record {
    by_id = is.named.by_id;
    first = v;
    rest = [];
    puts = refl;
    quiet = λ rows may. use_fault-one s.args_override_self a v rows one passes may;
    leaves = λ rows may. used-one a v rows one may;
  }

  pub flag_passes : (dashed name v : Text) → IsFlag s dashed name a → IsOfNone a → a.missing ≡ v ∷ [] → Passes s (flag a dashed name)
  flag_passes dashed name v is none stands = record {
    by_id = is.named.by_id;
    first = v;
    rest = [];
    puts = stands;
    quiet = λ rows may. use_fault-none a rows none may s.args_override_self;
    leaves = λ rows may. used-none a rows none may;
  }

abbrev pub ArePassing : Shape → ℕ → List Item → Type 0
ArePassing s position [] = Unit {0}
ArePassing s position (item ∷ items) = Fits s position item × (is_plain item ≡ true) × Passes s item × ArePassing s (place_after item position) items

-- what the items give the argument of an id
abbrev pub given : Text → List Item → List Text
given id [] = []
given id (item ∷ items) = added (item_rule item).id id (item_put item) ++ given id items

-- each argument that may be used once is given one value at most
abbrev pub is_once : (Text → List Text) → List Rule → Bool
is_once g = list_all (λ a. is_append (action_of a) || nat_le (length (g a.id)) 1)

-- each argument that is required is given a value
abbrev pub is_complete : (Text → List Text) → List Rule → Bool
is_complete g = list_all (λ a. not a.required || is_some (slice_get (g a.id) 0))

pub found_passes : {X : Type 0} (p q : X → Bool) (xs : List X) (x : X) → find p xs ≡ Some x → list_all q xs ≡ true → q x ≡ true
found_passes p q [] x e all = absurd (true≢false (ap is_some (sym e)))
found_passes p q (y ∷ ys) x e all = go (p y) (λ f. found_passes p q ys x f (both (q y) _ all).1) e
  where
    go : (b : Bool) → (find p ys ≡ Some x → q x ≡ true) → cond b (Some y) (find p ys) ≡ Some x → q x ≡ true
    go true later f = ap q (sym (ap (λ o. unwrap_or o x) f)) ∙ (both (q y) _ all).0
    go false later f = later f

none_before : (xs put ys : List Text) (v : Text) (vs : List Text) → put ≡ v ∷ vs → nat_le (length (xs ++ (put ++ ys))) 1 ≡ true → xs ≡ []
none_before [] put ys v vs e few = refl
none_before (x ∷ xs) put ys v vs e few =
    let one : length (x ∷ (xs ++ (put ++ ys))) ≤ 1 = leb-true _ _ few in
    let all : length (xs ++ (put ++ ys)) ≡ length xs + (length put + length ys) = length-append xs (put ++ ys) ∙ ap (λ n. length xs + n) (length-append put ys) in
    absurd (omega (arith, all, ap length e, one))

pub second_of : (b c : Bool) → (b || c) ≡ true → b ≡ false → c ≡ true
second_of true c e miss = absurd (true≢false miss)
second_of false c e miss = e

module _ (s : Shape) where
  pub used_in_order : (items : List Item) (position : ℕ) (rows : List Row) (before : Text → List Text) → ((id : Text) → entry id rows ≡ told (before id))
      → is_once (λ id. before id ++ given id items) s.rules ≡ true → ArePassing s position items
      → AreTaken s rows position items × ((id : Text) → entry id (rows_from rows items) ≡ told (before id ++ given id items))
  used_in_order [] position rows before entries once are = (tt, λ id. entries id ∙ ap told (sym (append-nil (before id))))
  used_in_order (item ∷ items) position rows before entries once are =
      let a = item_rule item in
      let passes = are.2 in
      let may : MayCome a rows = λ single.
      let few = second_of _ _ (found_passes (λ r. bytes_eq r.id a.id) (λ r. is_append (action_of r) || nat_le (length (before r.id ++ given r.id (item ∷ items))) 1) s.rules a passes.by_id once) single in
      let puts : added a.id a.id (item_put item) ≡ passes.first ∷ passes.rest = rw (same_text a.id) passes.puts in
      has_row-none a.id rows (entries a.id ∙ ap told (none_before (before a.id) (added a.id a.id (item_put item)) (given a.id items) passes.first passes.rest puts few)) in
      let after : Text → List Text = λ id. before id ++ added a.id id (item_put item) in
      let same : (λ (id : Text). after id ++ given id items) ≡ (λ id. before id ++ given id (item ∷ items)) = λ i id. append_assoc (before id) (added a.id id (item_put item)) (given id items) i in
      let later = used_in_order items (place_after item position) (used a (item_values item) rows) after
      (λ id. ap (entry id) (passes.leaves rows may) ∙ (ap (λ vs. entry id (with_values a.id (reading_by a) CommandLine vs rows)) passes.puts
      ∙ (entry-with_values a.id id (reading_by a) passes.first passes.rest (before id) rows (entries id) ∙ ap (λ vs. told (before id ++ added a.id id vs)) (sym passes.puts))))
      (ap (λ g. is_once g s.rules) same ∙ once) are.3 in
      ((are.0, are.1, passes.quiet rows may, later.0), λ id. later.1 id ∙ ap told (append_assoc (before id) (added a.id id (item_put item)) (given id items)))

-- the settings of a command that is plainly made: it asks for nothing else, and its default values pass
pub record IsPlainShape (s : Shape) : Type 0 where
  pub no_help : s.arg_required_else_help ≡ false
  pub no_subcommand : s.subcommand_required ≡ false
  pub defaults : list_all (λ a. is_empty a.defaults || is_empty (given_default_fault a a.defaults)) s.rules ≡ true

and_false : (b : Bool) → (b && false) ≡ false
and_false true = refl
and_false false = refl

default_passes : (has none : Bool) (kinds : Kinds) → (none || is_empty kinds) ≡ true → cond (has || none) [] kinds ≡ []
default_passes true none kinds e = refl
default_passes false true kinds e = refl
default_passes false false kinds e = is_nil kinds e

defaults_pass : (rows : List Row) (rules : List Rule) → list_all (λ a. is_empty a.defaults || is_empty (given_default_fault a a.defaults)) rules ≡ true → defaults_fault rows rules ≡ []
unfolding defaults_fault
defaults_pass rows [] all = refl
defaults_pass rows (a ∷ rules) all =
    let parts = both (is_empty a.defaults || is_empty (given_default_fault a a.defaults)) _ all in
    ap₂ or_else (default_passes (has_row a.id rows) (is_empty a.defaults) (given_default_fault a a.defaults) parts.0) (defaults_pass (with_default rows a) rules parts.1)

none_missing : (g defaults : Text → List Text) (rows : List Row) → ((id : Text) → entry id rows ≡ kept (told (g id)) (defaults id)) → (rules : List Rule) → is_complete g rules ≡ true
    → list_any (λ a. a.required && not (is_given a.id rows)) rules ≡ false
none_missing g defaults rows entries [] all = refl
none_missing g defaults rows entries (a ∷ rules) all =
    let parts = both (not a.required || is_some (slice_get (g a.id) 0)) _ all in
    ap₂ (λ b c. b || c) (go a.required parts.0) (none_missing g defaults rows entries rules parts.1)
  where
    go : (b : Bool) → (not b || is_some (slice_get (g a.id) 0)) ≡ true → (b && not (is_given a.id rows)) ≡ false
    go true e = ap not (is_given-entry a.id rows (g a.id) (defaults a.id) (entries a.id) e)
    go false e = refl

-- the command takes the words, and its rows hold what g says, or the default values
pub record IsRead (s : Shape) (words : List Text) (g : Text → List Text) : Type 0 where
  pub quiet : built_fault (record { top = s; subs = [] }) nothing_held words ≡ []
  pub entries : (id : Text) → entry id (rows_after s.rules [] words) ≡ kept (told (g id)) (defaults_of id s.rules)

pub items_read : (s : Shape) → IsPlainShape s → (items : List Item) → ArePassing s 1 items → is_once (λ id. given id items) s.rules ≡ true
    → is_complete (λ id. given id items) s.rules ≡ true → IsRead s (words_of items) (λ id. given id items)
items_read s plain items are once complete =
    let all = used_in_order s items 1 [] (λ id. []) (λ id. refl) once are in
    let rows = fold with_default (rows_from [] items) s.rules in
    let entries : (id : Text) → entry id rows ≡ kept (told (given id items)) (defaults_of id s.rules) =
    λ id. entry-with_default id s.rules (rows_from [] items) ∙ ap (λ o. kept o (defaults_of id s.rules)) (all.1 id) in
    let check : check_fault s rows false ≡ [] =
    rw (plain.no_help, plain.no_subcommand, none_missing (λ id. given id items) (λ id. defaults_of id s.rules) rows entries s.rules complete, and_false (not (s.subcommand_negates_reqs && false))) refl in
    let taken = items_taken s items all.0 (defaults_pass (rows_from [] items) s.rules plain.defaults) check in
    record { quiet = taken.0; entries = λ id. ap (entry id) taken.1 ∙ entries id }
