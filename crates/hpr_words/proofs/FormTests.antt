-- What is so of each command, as tests that compute at its data.
--
-- IsSound form == what is so of the command `form`
use Rattle.std.proofs.Common.{◌≡◌, ◌∙◌, ◌⊎◌, inl, inr, ℕ, suc, Bool, true, false, cond, List, [], ◌∷◌, map, find, Option, Some, None, is_some, refl, sym, ap, subst, bytes_eq, true≢false, unwrap_or, drop, codes, ◌^◌}
use Rattle.std.specs.Prelude.{◌&&◌, ◌||◌, ◌==◌, not, nat_lt, if◌then◌else◌}
use Rattle.std.specs.List.{list_all, list_any}
use Rattle.std.specs.Option.{option_map_or}
use Rattle.std.proofs.lemmas.Bool.{eqb-true}
use Rattle.clap.proofs.SimpleLemmas.{is_false}
use Rattle.clap.proofs.WalkLemmas.{both}
use Rattle.clap.specs.Facts.{parser_of_value, unwrap_or_range}
use Rattle.clap.specs.Faults.{given_default_fault}
use Rattle.clap.specs.Lexer.{long_of}
use Rattle.clap.specs.Simple.{Shape, built, new_rule}
use Rattle.clap.specs.Takes.{value_passes}
use Rattle.clap.specs.ValueTests.{accepts}
use Rattle.clap.specs.Walk.{Rule, Text, action_of, arg_by_id, arg_by_index, arg_by_long, has_long, is_append, is_empty, most_values, next_position, takes_several, takes_values}
use Rattle.clap.specs.declared.builder.action.ArgAction.{ArgAction}
use Rattle.clap.specs.declared.builder.action.ArgAction.TheVariants.{Append, Set, SetTrue}
use Rattle.clap.specs.declared.builder.value_parser.ValueParser.{ValueParser}
use Rattle.clap.specs.declared.builder.value_parser.ValueParser.TheVariants as parser
use Rattle.hpr_words.specs.Commands.{Form, NumberOption, form_app}
use Rattle.hpr_words.specs.Plain.{dashed, flags_of, is_among, options_of}
use Rattle.hpr_words.proofs.PieceLemmas.{TakesFlag, TakesOption, TakesWord, none_some, rule_at, rule_for}
use Rattle.hpr_words.proofs.RowLemmas.{defaults_of, is_same, same_text}
use Rattle.hpr_words.proofs.StepLemmas.{IsNamed}
use Rattle.hpr_words.proofs.UseLemmas.{IsOfOne, found_passes}

-- ---- tests, and what they show

is_none : {X : Type 0} (o : Option X) → not (is_some o) ≡ true → o ≡ None
is_none None e = refl
is_none (Some x) e = absurd (true≢false (sym e))

found_is : {X : Type 0} (o : Option X) (x : X) → is_some o ≡ true → o ≡ Some (unwrap_or o x)
found_is None x e = absurd (true≢false (sym e))
found_is (Some y) x e = refl

abbrev pub are_same : Bool → Bool → Bool
are_same b c = if b then c else not c

pub same_is : (b c : Bool) → are_same b c ≡ true → b ≡ c
same_is true c e = sym e
same_is false c e = sym (is_false c e)

abbrev pub is_only : Text → List Text → Bool
is_only word (w ∷ []) = bytes_eq w word
is_only word _ = false

pub only_is : (word : Text) (ws : List Text) → is_only word ws ≡ true → ws ≡ word ∷ []
only_is word (w ∷ []) e = ap (λ v. v ∷ []) (is_same w word e)
only_is word _ e = absurd (true≢false (sym e))

abbrev pub reads_as : Text → Option (Text × Option Text) → Bool
reads_as name None = false
reads_as name (Some read) = not (is_some read.1) && bytes_eq read.0 name

reads_is : (name : Text) (o : Option (Text × Option Text)) → reads_as name o ≡ true → o ≡ Some (name, None)
reads_is name None e = absurd (true≢false (sym e))
reads_is name (Some read) e =
    let parts = both (not (is_some read.1)) _ e in
    λ i. Some (is_same read.0 name parts.1 i, is_none read.1 parts.0 i)

abbrev pub is_single : ArgAction → Bool
is_single Set = true
is_single Append = true
is_single _ = false

single_is : (action : ArgAction) → is_single action ≡ true → (action ≡ Set) ⊎ (action ≡ Append)
single_is Set e = inl refl
single_is Append e = inr refl
single_is _ e = absurd (true≢false (sym e))

abbrev pub is_set_true : ArgAction → Bool
is_set_true SetTrue = true
is_set_true _ = false

set_true_is : (action : ArgAction) → is_set_true action ≡ true → action ≡ SetTrue
set_true_is SetTrue e = refl
set_true_is _ e = absurd (true≢false (sym e))

abbrev pub is_string : ValueParser → Bool
is_string parser.String = true
is_string _ = false

string_is : (p : ValueParser) → is_string p ≡ true → p ≡ parser.String
string_is parser.String e = refl
string_is _ e = absurd (true≢false (sym e))

abbrev pub is_range : ℕ → ValueParser → Bool
is_range most (parser.Unsigned low high) = (low == 1) && (high == most)
is_range most _ = false

pub range_is : (most : ℕ) (p : ValueParser) → is_range most p ≡ true → p ≡ parser.Unsigned 1 most
range_is most (parser.Unsigned low high) e =
    let parts = both (low == 1) _ e in
    λ i. parser.Unsigned (eqb-true low 1 parts.0 i) (eqb-true high most parts.1 i)
range_is most _ e = absurd (true≢false (sym e))

-- ---- an argument, by its id

abbrev pub have_own_ids : List Rule → Bool
have_own_ids [] = true
have_own_ids (a ∷ rules) = list_all (λ other. not (bytes_eq a.id other.id)) rules && have_own_ids rules

found_by_id : (p : Rule → Bool) (rules : List Rule) (a : Rule) → have_own_ids rules ≡ true → find p rules ≡ Some a → arg_by_id rules a.id ≡ Some a
found_by_id p [] a own e = absurd (none_some a e)
found_by_id p (r ∷ rules) a own e = go (p r) (both (list_all (λ other. not (bytes_eq r.id other.id)) rules) _ own) (λ own f. found_by_id p rules a own f) e
  where
    go : (b : Bool) → (list_all (λ other. not (bytes_eq r.id other.id)) rules ≡ true) × (have_own_ids rules ≡ true)
        → (have_own_ids rules ≡ true → find p rules ≡ Some a → arg_by_id rules a.id ≡ Some a) → cond b (Some r) (find p rules) ≡ Some a → arg_by_id (r ∷ rules) a.id ≡ Some a
    go true parts later f =
        subst (λ (x : Rule). arg_by_id (r ∷ rules) x.id ≡ Some x) (ap (λ o. unwrap_or o r) f) (ap (λ b. cond b (Some r) (arg_by_id rules r.id)) (same_text r.id))
    go false parts later f =
        ap (λ b. cond b (Some r) (arg_by_id rules a.id)) (is_false _ (found_passes p (λ (other : Rule). not (bytes_eq r.id other.id)) rules a f parts.0))
        ∙ later parts.1 f

-- ---- what an argument takes

abbrev pub takes_one : Rule → Bool
takes_one a = ((unwrap_or_range a.range).start_inclusive == 1) && ((most_values a == 1) && is_single (action_of a))

one_is : (a : Rule) → takes_one a ≡ true → IsOfOne a
one_is a e =
    let least = both ((unwrap_or_range a.range).start_inclusive == 1) _ e in
    let most = both (most_values a == 1) _ least.1 in
    record { least = eqb-true _ 1 least.0; most = eqb-true _ 1 most.0; action = single_is (action_of a) most.1 }

-- the argument at this place takes any word
abbrev pub takes_words : Shape → ℕ → Bool
takes_words s position =
    is_some (arg_by_index s.rules position) && (not (takes_several (rule_at s position)) && (not (rule_at s position).trailing_var_arg
    && (takes_one (rule_at s position) && is_string (parser_of_value (rule_at s position).parser))))

pub words_taken : (s : Shape) (position : ℕ) → have_own_ids s.rules ≡ true → takes_words s position ≡ true → (w : Text) → TakesWord s position w
words_taken s position own e w =
    let a = rule_at s position in
    let found = both (is_some (arg_by_index s.rules position)) _ e in
    let single = both (not (takes_several a)) _ found.1 in
    let trailing = both (not a.trailing_var_arg) _ single.1 in
    let one = both (takes_one a) _ trailing.1 in
    let is : arg_by_index s.rules position ≡ Some a = found_is (arg_by_index s.rules position) (new_rule []) found.0 in
    record {
      at = record {
        found = is;
        by_id = found_by_id (λ (r : Rule). option_map_or (λ k. k == position) r.index false) s.rules a own is;
        single = is_false _ single.0;
        no_trailing = is_false _ trailing.0;
      };
      one = one_is a one.0;
      passes = ap (λ p. accepts a.ignore_case p w) (string_is _ one.1);
    }

-- the word, behind its two dashes, is the name of an argument
abbrev pub names_rule : Shape → Text → Bool
names_rule s x = reads_as (drop 2 x) (long_of x) && (not (bytes_eq x (45 ∷ 45 ∷ [])) && is_some (arg_by_long s.rules (drop 2 x)))

named_is : (s : Shape) (x : Text) → have_own_ids s.rules ≡ true → names_rule s x ≡ true → IsNamed s x (drop 2 x) (rule_for s x)
named_is s x own e =
    let reads = both (reads_as (drop 2 x) (long_of x)) _ e in
    let rest = both (not (bytes_eq x (45 ∷ 45 ∷ []))) _ reads.1 in
    let is : arg_by_long s.rules (drop 2 x) ≡ Some (rule_for s x) = found_is (arg_by_long s.rules (drop 2 x)) (new_rule []) rest.1 in
    record {
      reads = reads_is (drop 2 x) (long_of x) reads.0;
      no_dashes = is_false _ rest.0;
      found = is;
      by_id = found_by_id (λ (r : Rule). not (is_some r.index) && has_long r (drop 2 x)) s.rules (rule_for s x) own is;
    }

abbrev pub takes_value : Shape → Text → Bool
takes_value s x = names_rule s x && (takes_values (rule_for s x) && takes_one (rule_for s x))

pub value_taken : (s : Shape) (x : Text) → have_own_ids s.rules ≡ true → takes_value s x ≡ true → TakesOption s x
value_taken s x own e =
    let named = both (names_rule s x) _ e in
    let takes = both (takes_values (rule_for s x)) _ named.1 in
    let one = one_is (rule_for s x) takes.1 in
    record {
      is = record { named = named_is s x own named.0; takes = takes.0; one = one.most };
      one = one;
    }

abbrev pub takes_none : Rule → Bool
takes_none a =
    not (takes_values a) && (((unwrap_or_range a.range).start_inclusive == 0) && ((most_values a == 0) && (is_set_true (action_of a)
    && (is_only (codes "true") a.missing && list_all (value_passes a) a.missing))))

abbrev pub is_flag : Shape → Text → Bool
is_flag s x = names_rule s x && takes_none (rule_for s x)

pub flag_taken : (s : Shape) (x : Text) → have_own_ids s.rules ≡ true → is_flag s x ≡ true → TakesFlag s x
flag_taken s x own e =
    let a = rule_for s x in
    let named = both (names_rule s x) _ e in
    let takes = both (not (takes_values a)) _ named.1 in
    let least = both ((unwrap_or_range a.range).start_inclusive == 0) _ takes.1 in
    let most = both (most_values a == 0) _ least.1 in
    let action = both (is_set_true (action_of a)) _ most.1 in
    let stands = both (is_only (codes "true") a.missing) _ action.1 in
    record {
      is = record { named = named_is s x own named.0; takes = is_false _ takes.0 };
      none = record { least = eqb-true _ 0 least.0; most = eqb-true _ 0 most.0; action = set_true_is _ action.0; passes = stands.1 };
      stands = only_is (codes "true") a.missing stands.0;
    }

-- ---- a command

abbrev pub top_of : Form → Shape
top_of form = (built (form_app form)).top

-- the positionals stand in their places from this one on, and then the list, which stays in its place
abbrev pub are_places : Shape → ℕ → List Text → Option (Text × Bool) → Bool
are_places s position [] None = true
are_places s position [] (Some list) = bytes_eq (rule_at s position).id list.0 && (takes_words s position && (next_position (rule_at s position) position == position))
are_places s position (id ∷ ids) list =
    bytes_eq (rule_at s position).id id && (takes_words s position && ((next_position (rule_at s position) position == suc position) && are_places s (suc position) ids list))

abbrev pub is_not : Text → Text → Bool
is_not id other = not (bytes_eq other id)

abbrev pub are_own : List Text → Bool
are_own [] = true
are_own (id ∷ ids) = list_all (is_not id) ids && are_own ids

abbrev pub is_no_list : Option (Text × Bool) → Text → Bool
is_no_list None id = true
is_no_list (Some list) id = is_not id list.0

abbrev pub no_list_among : List Text → Option (Text × Bool) → Bool
no_list_among ids None = true
no_list_among ids (Some list) = list_all (is_not list.0) ids

-- no positional has this id
abbrev pub is_other : Form → Text → Bool
is_other form id = list_all (is_not id) form.words && is_no_list form.list id

-- no option and no flag has this id
abbrev pub is_apart : Form → Text → Text → Bool
is_apart form id x = not (bytes_eq (rule_for (top_of form) x).id id)

abbrev pub stands_apart : Form → Text → Bool
stands_apart form id = list_all (is_apart form id) (options_of form) && list_all (is_apart form id) (flags_of form)

-- of these words, only the named one has this id
abbrev pub is_of : Form → Text → Text → Text → Bool
is_of form id named x = are_same (bytes_eq (rule_for (top_of form) x).id id) (bytes_eq x named)

abbrev pub is_fine_word : Form → Text → Bool
is_fine_word form id = stands_apart form id && is_empty (defaults_of id (top_of form).rules)

abbrev pub is_fine_list : Form → Option (Text × Bool) → Bool
is_fine_list form None = true
is_fine_list form (Some list) = is_fine_word form list.0

abbrev pub is_fine_number : Form → NumberOption → Bool
is_fine_number form option =
    takes_value (top_of form) (dashed option.id) && (list_all (is_of form option.id (dashed option.id)) (options_of form)
    && (list_all (is_apart form option.id) (flags_of form) && (is_other form option.id && (is_empty (defaults_of option.id (top_of form).rules)
    && (not (rule_for (top_of form) (dashed option.id)).ignore_case
    && (is_range option.most (parser_of_value (rule_for (top_of form) (dashed option.id)).parser) && nat_lt option.most (2 ^ 64)))))))

abbrev pub is_fine_flag : Form → Text → Bool
is_fine_flag form id =
    is_flag (top_of form) (dashed id) && (list_all (is_apart form id) (options_of form) && (list_all (is_of form id (dashed id)) (flags_of form)
    && (is_other form id && is_only (codes "false") (defaults_of id (top_of form).rules))))

-- the names of the options
abbrev pub ids_of : Form → List Text
ids_of form = map (λ (option : NumberOption). option.id) form.numbers

-- an argument that may come once is one of which the words give at most one value
abbrev pub is_told_once : Form → Rule → Bool
is_told_once form a =
    is_append (action_of a) || (is_among a.id form.words || (is_among a.id (ids_of form)
    || (is_among a.id form.flags || bytes_eq a.id (codes "help"))))

abbrev pub is_needed_list : Text → Option (Text × Bool) → Bool
is_needed_list id None = false
is_needed_list id (Some list) = list.1 && bytes_eq list.0 id

abbrev pub is_needed_number : Text → NumberOption → Bool
is_needed_number id option = bytes_eq option.id id && not (is_some option.default)

-- an argument that must be given is one that the words give a value
abbrev pub is_told : Form → Rule → Bool
is_told form a = not a.required || (is_among a.id form.words || (is_needed_list a.id form.list || list_any (is_needed_number a.id) form.numbers))

abbrev pub have_defaults : Shape → Bool
have_defaults s = list_all (λ a. is_empty a.defaults || is_empty (given_default_fault a a.defaults)) s.rules

abbrev pub is_sound : Form → Bool
is_sound form =
    have_own_ids (top_of form).rules && (have_defaults (top_of form) && (are_places (top_of form) 1 form.words form.list && (are_own form.words
    && (list_all (is_no_list form.list) form.words && (no_list_among form.words form.list && (list_all (is_fine_word form) form.words
    && (is_fine_list form form.list && (list_all (is_fine_number form) form.numbers && (list_all (is_fine_flag form) form.flags
    && ((stands_apart form (codes "help") && is_other form (codes "help"))
    && (list_all (is_told_once form) (top_of form).rules && list_all (is_told form) (top_of form).rules)))))))))))

pub record IsSound (form : Form) : Type 0 where
  pub own_ids : have_own_ids (top_of form).rules ≡ true
  pub defaults : have_defaults (top_of form) ≡ true
  pub places : are_places (top_of form) 1 form.words form.list ≡ true
  pub own : are_own form.words ≡ true
  pub no_list : list_all (is_no_list form.list) form.words ≡ true
  pub list_alone : no_list_among form.words form.list ≡ true
  pub fine_words : list_all (is_fine_word form) form.words ≡ true
  pub fine_list : is_fine_list form form.list ≡ true
  pub fine_numbers : list_all (is_fine_number form) form.numbers ≡ true
  pub fine_flags : list_all (is_fine_flag form) form.flags ≡ true
  pub help_apart : stands_apart form (codes "help") ≡ true
  pub help_other : is_other form (codes "help") ≡ true
  pub told_once : list_all (is_told_once form) (top_of form).rules ≡ true
  pub told : list_all (is_told form) (top_of form).rules ≡ true

pub sound_is : (form : Form) → is_sound form ≡ true → IsSound form
sound_is form e =
    let a = both (have_own_ids (top_of form).rules) _ e in
    let b = both (have_defaults (top_of form)) _ a.1 in
    let c = both (are_places (top_of form) 1 form.words form.list) _ b.1 in
    let d = both (are_own form.words) _ c.1 in
    let f = both (list_all (is_no_list form.list) form.words) _ d.1 in
    let g = both (no_list_among form.words form.list) _ f.1 in
    let h = both (list_all (is_fine_word form) form.words) _ g.1 in
    let j = both (is_fine_list form form.list) _ h.1 in
    let k = both (list_all (is_fine_number form) form.numbers) _ j.1 in
    let l = both (list_all (is_fine_flag form) form.flags) _ k.1 in
    let m = both (stands_apart form (codes "help") && is_other form (codes "help")) _ l.1 in
    let help = both (stands_apart form (codes "help")) _ m.0 in
    let n = both (list_all (is_told_once form) (top_of form).rules) _ m.1 in
    record {
      own_ids = a.0;
      defaults = b.0;
      places = c.0;
      own = d.0;
      no_list = f.0;
      list_alone = g.0;
      fine_words = h.0;
      fine_list = j.0;
      fine_numbers = k.0;
      fine_flags = l.0;
      help_apart = help.0;
      help_other = help.1;
      told_once = n.0;
      told = n.1;
    }
