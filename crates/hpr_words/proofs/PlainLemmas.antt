-- Plain words are taken: for every command, by its data.
use Rattle.std.proofs.Common.{◌≡◌, ◌∙◌, ◌⊎◌, inl, inr, ℕ, Bool, true, false, List, [], ◌∷◌, map, Option, Some, None, is_some, length, slice_get, refl, sym, ap, bytes_eq, codes, true≢false}
use Rattle.std.specs.Prelude.{◌&&◌, ◌||◌, not, nat_le, option_and_then}
use Rattle.std.specs.List.{list_all, list_any}
use Rattle.std.proofs.lemmas.Bool.{ltb-true}
use Rattle.clap.proofs.OnLiterals.{clap_on_literals}
use Rattle.clap.proofs.SimpleLemmas.{is_false, is_nil}
use Rattle.clap.proofs.WalkLemmas.{both}
use Rattle.clap.specs.Facts.{parser_of_value}
use Rattle.clap.specs.ValueTests.{accepts}
use Rattle.clap.specs.Walk.{Row, Rule, Text, action_of, is_append, is_empty}
use Rattle.clap.specs.Words.{first_of, matches_of}
use Rattle.hpr_words.specs.Commands.{Form, NumberOption, asked_with, commands, form_app, form_named}
use Rattle.hpr_words.specs.Plain.{Piece, behind, dashed, first_names, fits_list, fits_words, flag_at, flags_of, is_among, is_name, is_unbroken, names, names_left, number_at, options_of, pieces, plain, plainly_asked, uses, values}
use Rattle.hpr_words.specs.Request.{Request}
use Rattle.hpr_words.specs.Taken.{all_some, asked_in, flag_in, listed_in, number_in, number_or, taken, taken_by}
use Rattle.hpr_words.proofs.AskingLemmas.{all_some-each, all_some-names, all_some-same, all_some-some}
use Rattle.hpr_words.proofs.CommandLemmas.{IsCommand, by_pieces, first_is, flag_is, given_flag, given_name, given_option, if_so, is_flagged-trues, is_read, list_is, once_flagged, taken_is}
use Rattle.hpr_words.proofs.FairLemmas.{IsFair, numbers_fair}
use Rattle.hpr_words.proofs.FormLemmas.{AreFor, Gives, all_so, are_for, each_both, each_map, each_so, given-listed, given-none, given-words, gives_among, gives_same, have_places, list_each, listed}
use Rattle.hpr_words.proofs.FormTests.{IsSound, flag_taken, ids_of, is_apart, is_fine_flag, is_fine_list, is_fine_number, is_fine_word, is_flag, is_needed_list, is_needed_number, is_of, is_other, is_range, is_sound, is_told, is_told_once, only_is, range_is, same_is, sound_is, stands_apart, takes_value, top_of, value_taken, is_not}
use Rattle.hpr_words.proofs.PieceLemmas.{AreFair, Each, IsApart, IsCut, IsOf, TakesFlag, TakesOption, each_among, given_at, given_names, none_some, rule_for, trues}
use Rattle.hpr_words.proofs.RowLemmas.{defaults_of, is_same}
use Rattle.hpr_words.proofs.UseLemmas.{IsRead, found_passes, is_complete, is_once, second_of}

one_of : (b c : Bool) → (b || c) ≡ true → (b ≡ true) ⊎ (c ≡ true)
one_of true c e = inl refl
one_of false c e = inr e

-- what follows from one in a list, and from what is so of each
any_so : {X : Type 0} (test : X → Bool) (P : X → Type 0) (Q : Type 0) → ((x : X) → test x ≡ true → P x → Q) → (xs : List X) → Each P xs → list_any test xs ≡ true → Q
any_so test P Q so [] each e = absurd (true≢false (sym e))
any_so test P Q so (x ∷ xs) each e = elim (one_of (test x) _ e) [
  | inl here ↦ so x here each.0
  | inr there ↦ any_so test P Q so xs each.1 there
]

-- an option, and the values that the pieces give it
pub record IsGiven (form : Form) (ps : List Piece) (option : NumberOption) : Type 0 where
  pub n : ℕ
  pub plainly : number_at ps option ≡ Some n
  pub fair : IsFair option (values (dashed option.id) ps) n
  pub gives : given_at (top_of form) ps option.id ≡ values (dashed option.id) ps
  pub no_default : defaults_of option.id (top_of form).rules ≡ []
  pub passes : AreFair (top_of form) ps (dashed option.id)

-- a flag, and the values that its uses leave
pub record IsFlagged (form : Form) (ps : List Piece) (id : Text) : Type 0 where
  pub given : Bool
  pub used : flag_at ps id ≡ Some given
  pub gives : given_at (top_of form) ps id ≡ trues (uses (dashed id) ps)
  pub default : defaults_of id (top_of form).rules ≡ codes "false" ∷ []

-- ---- the command

module _ (form : Form) (is : IsSound form) where
  apart_from : (id : Text) (xs : List Text) → list_all (is_apart form id) xs ≡ true → Each (IsApart (top_of form) id) xs
  apart_from id xs = list_each (is_apart form id) (IsApart (top_of form) id) (λ x e. is_false _ e) xs

  of_named : (id named : Text) (xs : List Text) → list_all (is_of form id named) xs ≡ true → Each (IsOf (top_of form) id named) xs
  of_named id named xs = list_each (is_of form id named) (IsOf (top_of form) id named) (λ x e. same_is _ _ e) xs

  is_command : IsCommand (form_app form) (options_of form) (flags_of form)
  is_command = record {
    faults = λ command words. refl;
    rows = λ command words. refl;
    shape = record { no_help = refl; no_subcommand = refl; defaults = is.defaults };
    takes_options = each_map (λ (option : NumberOption). dashed option.id) (TakesOption (top_of form)) form.numbers
        (list_each (is_fine_number form) (λ option. TakesOption (top_of form) (dashed option.id))
        (λ option e. value_taken (top_of form) (dashed option.id) is.own_ids (both (takes_value (top_of form) (dashed option.id)) _ e).0) form.numbers is.fine_numbers);
    takes_flags = each_map dashed (TakesFlag (top_of form)) form.flags
        (list_each (is_fine_flag form) (λ id. TakesFlag (top_of form) (dashed id))
        (λ id e. flag_taken (top_of form) (dashed id) is.own_ids (both (is_flag (top_of form) (dashed id)) _ e).0) form.flags is.fine_flags);
  }

  -- ---- what the pieces give each argument

  module _ {words : List Text} {ps : List Piece} (cut : IsCut (options_of form) (flags_of form) words ps) (are : AreFor form.words form.list (names ps)) where
    abbrev g : Text → List Text
    g = given_at (top_of form) ps

    abbrev at_names : Text → List Text
    at_names id = given_names (top_of form) id 1 (names ps)

    given_position : (id : Text) → stands_apart form id ≡ true → g id ≡ at_names id
    given_position id e =
        let parts = both (list_all (is_apart form id) (options_of form)) _ e in
        given_name is_command cut refl id (apart_from id (options_of form) parts.0) (apart_from id (flags_of form) parts.1)

    no_name : (id : Text) → is_other form id ≡ true → at_names id ≡ []
    no_name id e =
        let parts = both (list_all (is_not id) form.words) _ e in
        given-none (top_of form) id 1 form.words form.list (names ps) is.places are parts.0 parts.1

    gives_words : Gives g form.words (names ps)
    gives_words = gives_same at_names g form.words (names ps)
        (list_each (is_fine_word form) (λ id. g id ≡ at_names id) (λ id e. given_position id (both (stands_apart form id) _ e).0) form.words is.fine_words)
        (given-words (top_of form) 1 form.words form.list (names ps) is.places are is.own is.no_list)

    gives_list : listed form.list g ≡ names_left form.words (names ps)
    gives_list = go form.list is.fine_list ∙ given-listed (top_of form) 1 form.words form.list (names ps) is.places are is.list_alone
      where
        go : (list : Option (Text × Bool)) → is_fine_list form list ≡ true → listed list g ≡ listed list at_names
        go None e = refl
        go (Some list) e = given_position list.0 (both (stands_apart form list.0) _ e).0

    gives_no_help : g (codes "help") ≡ []
    gives_no_help = given_position (codes "help") is.help_apart ∙ no_name (codes "help") is.help_other

    number_given : (option : NumberOption) → is_fine_number form option ≡ true → (n : ℕ) × (number_at ps option ≡ Some n) → IsGiven form ps option
    number_given option e (n, plainly) =
        let x = dashed option.id in
        let a = rule_for (top_of form) x in
        let takes = both (takes_value (top_of form) x) _ e in
        let own = both (list_all (is_of form option.id x) (options_of form)) _ takes.1 in
        let apart = both (list_all (is_apart form option.id) (flags_of form)) _ own.1 in
        let other = both (is_other form option.id) _ apart.1 in
        let none = both (is_empty (defaults_of option.id (top_of form).rules)) _ other.1 in
        let exact = both (not a.ignore_case) _ none.1 in
        let range = both (is_range option.most (parser_of_value a.parser)) _ exact.1 in
        let fair = numbers_fair option (values x ps) n (ltb-true _ _ range.1) plainly in
        record {
          n = n;
          plainly = plainly;
          fair = fair;
          gives = given_option is_command cut refl x option.id (of_named option.id x (options_of form) own.0) (apart_from option.id (flags_of form) apart.0) (no_name option.id other.0);
          no_default = is_nil _ none.0;
          passes = (λ i. list_all (λ v. is_name v && accepts (is_false _ exact.0 i) (range_is option.most (parser_of_value a.parser) range.0 i) v) (values x ps)) ∙ fair.passes;
        }

    flag_given : (id : Text) → is_fine_flag form id ≡ true → (given : Bool) × (flag_at ps id ≡ Some given) → IsFlagged form ps id
    flag_given id e (given, used) =
        let takes = both (is_flag (top_of form) (dashed id)) _ e in
        let apart = both (list_all (is_apart form id) (options_of form)) _ takes.1 in
        let own = both (list_all (is_of form id (dashed id)) (flags_of form)) _ apart.1 in
        let other = both (is_other form id) _ own.1 in
        record {
          given = given;
          used = used;
          gives = given_flag is_command cut refl (dashed id) id (apart_from id (options_of form) apart.0) (of_named id (dashed id) (flags_of form) own.0) (no_name id other.0);
          default = only_is (codes "false") _ other.1;
        }

    module _ (numbers : Each (IsGiven form ps) form.numbers) (flags : Each (IsFlagged form ps) form.flags) where
      abbrev Few : Text → Type 0
      Few id = nat_le (length (g id)) 1 ≡ true

      abbrev There : Text → Type 0
      There id = is_some (slice_get (g id) 0) ≡ true

      few : (id : Text) → (is_among id form.words || (is_among id (ids_of form) || (is_among id form.flags || bytes_eq id (codes "help")))) ≡ true → Few id
      few id e = elim (one_of (is_among id form.words) _ e) [
        | inl word ↦ gives_among (λ vs. nat_le (length vs) 1 ≡ true) (λ n. refl) g form.words (names ps) gives_words id word
        | inr more ↦ elim (one_of (is_among id (ids_of form)) _ more) [
          | inl number ↦ each_among Few id (ids_of form) number
              (each_map (λ (option : NumberOption). option.id) Few form.numbers
              (each_so (IsGiven form ps) (λ option. Few option.id) (λ option it. ap (λ vs. nat_le (length vs) 1) it.gives ∙ it.fair.once) form.numbers numbers))
          | inr rest ↦ elim (one_of (is_among id form.flags) _ rest) [
            | inl flag ↦ each_among Few id form.flags flag
                (each_so (IsFlagged form ps) Few (λ x it. ap (λ vs. nat_le (length vs) 1) it.gives ∙ once_flagged (uses (dashed x) ps) it.given it.used) form.flags flags)
            | inr help ↦ ap (λ x. nat_le (length (g x)) 1) (is_same id (codes "help") help) ∙ ap (λ vs. nat_le (length vs) 1) gives_no_help
          ]
        ]
      ]

      once : is_once g (top_of form).rules ≡ true
      once = all_so (is_told_once form) (λ a. is_append (action_of a) || nat_le (length (g a.id)) 1) (λ a e. go a (is_append (action_of a)) e) (top_of form).rules is.told_once
        where
          go : (a : Rule) (b : Bool)
              → (b || (is_among a.id form.words || (is_among a.id (ids_of form) || (is_among a.id form.flags || bytes_eq a.id (codes "help"))))) ≡ true
              → (b || nat_le (length (g a.id)) 1) ≡ true
          go a true e = refl
          go a false e = few a.id e

      there : (id : Text) → (is_among id form.words || (is_needed_list id form.list || list_any (is_needed_number id) form.numbers)) ≡ true → There id
      there id e = elim (one_of (is_among id form.words) _ e) [
        | inl word ↦ gives_among (λ vs. is_some (slice_get vs 0) ≡ true) (λ n. refl) g form.words (names ps) gives_words id word
        | inr more ↦ elim (one_of (is_needed_list id form.list) _ more) [
          | inl list ↦ list_there form.list list are.fits gives_list
          | inr number ↦ any_so (is_needed_number id) (IsGiven form ps) (There id) number_there form.numbers numbers number
        ]
      ]
        where
          list_there : (list : Option (Text × Bool)) → is_needed_list id list ≡ true → fits_list list (names_left form.words (names ps)) ≡ true → listed list g ≡ names_left form.words (names ps) → There id
          list_there None needed fits gives = absurd (true≢false (sym needed))
          list_there (Some list) needed fits gives =
              let parts = both list.1 _ needed in
              ap (λ x. is_some (slice_get (g x) 0)) (sym (is_same list.0 id parts.1))
              ∙ (ap (λ vs. is_some (slice_get vs 0)) gives ∙ second_of (not list.1) _ fits (ap not parts.0))

          number_there : (option : NumberOption) → is_needed_number id option ≡ true → IsGiven form ps option → There id
          number_there option needed it =
              let parts = both (bytes_eq option.id id) _ needed in
              ap (λ x. is_some (slice_get (g x) 0)) (sym (is_same option.id id parts.0))
              ∙ (ap (λ vs. is_some (slice_get vs 0)) it.gives ∙ second_of (is_some option.default) _ it.fair.stands (is_false _ parts.1))

      complete : is_complete g (top_of form).rules ≡ true
      complete = all_so (is_told form) (λ a. not a.required || is_some (slice_get (g a.id) 0)) (λ a e. go a (not a.required) e) (top_of form).rules is.told
        where
          go : (a : Rule) (b : Bool) → (b || (is_among a.id form.words || (is_needed_list a.id form.list || list_any (is_needed_number a.id) form.numbers))) ≡ true
              → (b || is_some (slice_get (g a.id) 0)) ≡ true
          go a true e = refl
          go a false e = there a.id e

      read : IsRead (top_of form) words g
      read = is_read is_command cut refl (have_places (top_of form) is.own_ids 1 form.words form.list (names ps) is.places are)
          (each_map (λ (option : NumberOption). dashed option.id) (AreFair (top_of form) ps) form.numbers (each_so (IsGiven form ps) (λ option. AreFair (top_of form) ps (dashed option.id)) (λ option it. it.passes) form.numbers numbers))
          once complete

      -- ---- what the rows hold

      module _ (command : Text) where
        abbrev rows : List Row
        rows = matches_of (form_app form) (command ∷ words)

        words_are : all_some (map (λ id. first_of id rows) form.words) ≡ first_names form.words (names ps)
        words_are = all_some-names (λ id. first_of id rows) g form.words (names ps)
            (list_each (is_fine_word form) (λ id. (vs : List Text) → g id ≡ vs → first_of id rows ≡ slice_get vs 0)
            (λ id e vs same. first_is is_command command read id vs (is_nil _ (both (stands_apart form id) _ e).1) same) form.words is.fine_words) gives_words

        list_are : listed_in form.list rows ≡ names_left form.words (names ps)
        list_are = go form.list is.fine_list gives_list
          where
            go : (list : Option (Text × Bool)) → is_fine_list form list ≡ true → listed list g ≡ names_left form.words (names ps) → listed_in list rows ≡ names_left form.words (names ps)
            go None e gives = gives
            go (Some list) e gives = list_is is_command command read list.0 _ (is_nil _ (both (stands_apart form list.0) _ e).1) gives

        numbers_are : all_some (map (λ (option : NumberOption). number_in option rows) form.numbers) ≡ all_some (map (number_at ps) form.numbers)
        numbers_are = all_some-same (λ (option : NumberOption). number_in option rows) (number_at ps) form.numbers
            (each_so (IsGiven form ps) (λ option. number_in option rows ≡ number_at ps option)
            (λ option it. ap (number_or option.default option.most) (first_is is_command command read option.id _ it.no_default it.gives) ∙ (it.fair.is ∙ sym it.plainly)) form.numbers numbers)

        flags_are : Some (map (λ id. flag_in id rows) form.flags) ≡ all_some (map (flag_at ps) form.flags)
        flags_are = all_some-some (λ id. flag_in id rows) form.flags
            ∙ all_some-same (λ id. Some (flag_in id rows)) (flag_at ps) form.flags
            (each_so (IsFlagged form ps) (λ id. Some (flag_in id rows) ≡ flag_at ps id)
            (λ id it. ap Some (flag_is is_command command read id _ it.default it.gives ∙ is_flagged-trues (uses (dashed id) ps) it.given it.used) ∙ sym it.used) form.flags flags)

        pub names_taken : taken_by form (command ∷ words) ≡ asked_with form (first_names form.words (names ps)) (names_left form.words (names ps))
            (all_some (map (number_at ps) form.numbers)) (all_some (map (flag_at ps) form.flags))
        names_taken = taken_is is_command command read (asked_in form) ∙ (λ i. asked_with form (words_are i) (list_are i) (numbers_are i) (flags_are i))

  -- ---- what words ask for, whose pieces give each argument its values

  module _ (command : Text) (words : List Text) (ps : List Piece) (cut : IsCut (options_of form) (flags_of form) words ps) (first : List Text) (numbers : List ℕ) (flags : List Bool) where
    pub pieces_asked : first_names form.words (names ps) ≡ Some first → fits_list form.list (names_left form.words (names ps)) ≡ true → all_some (map (number_at ps) form.numbers) ≡ Some numbers
        → all_some (map (flag_at ps) form.flags) ≡ Some flags → taken_by form (command ∷ words) ≡ form.asks first (names_left form.words (names ps)) numbers flags
    pieces_asked enough fits told used =
        let are = are_for form.words form.list (names ps) first enough fits in
        names_taken cut are
        (each_both (λ (option : NumberOption). is_fine_number form option ≡ true) (λ (option : NumberOption). (n : ℕ) × (number_at ps option ≡ Some n)) (IsGiven form ps)
        (number_given cut are) form.numbers (list_each (is_fine_number form) (λ option. is_fine_number form option ≡ true) (λ option e. e) form.numbers is.fine_numbers)
        (all_some-each (number_at ps) form.numbers numbers told))
        (each_both (λ (id : Text). is_fine_flag form id ≡ true) (λ (id : Text). (b : Bool) × (flag_at ps id ≡ Some b)) (IsFlagged form ps)
        (flag_given cut are) form.flags (list_each (is_fine_flag form) (λ id. is_fine_flag form id ≡ true) (λ id e. e) form.flags is.fine_flags)
        (all_some-each (flag_at ps) form.flags flags used))
        command
        ∙ (λ i. asked_with form (enough i) (names_left form.words (names ps)) (told i) (used i))

  -- ---- so plain words are taken

  by_names : (command : Text) (words : List Text) (ps : List Piece) → IsCut (options_of form) (flags_of form) words ps → (r : Request) → plainly_asked form ps ≡ Some r
      → taken_by form (command ∷ words) ≡ Some r
  by_names command words ps cut r e =
      let asked = if_so (fits_words form (names ps) && (is_unbroken (behind (length form.words) ps) && fits_list form.list (names_left form.words (names ps)))) _ r e in
      let fits = both (fits_words form (names ps)) _ asked.0 in
      go (first_names form.words (names ps)) refl (all_some (map (number_at ps) form.numbers)) refl
      (all_some (map (flag_at ps) form.flags)) refl (both _ _ fits.1).1 asked.1
    where
      go : (first : Option (List Text)) → first_names form.words (names ps) ≡ first
          → (numbers : Option (List ℕ)) → all_some (map (number_at ps) form.numbers) ≡ numbers
          → (flags : Option (List Bool)) → all_some (map (flag_at ps) form.flags) ≡ flags
          → fits_list form.list (names_left form.words (names ps)) ≡ true → asked_with form first (names_left form.words (names ps)) numbers flags ≡ Some r → taken_by form (command ∷ words) ≡ Some r
      go (Some first) enough (Some numbers) told (Some flags) used fits f = pieces_asked command words ps cut first numbers flags enough fits told used ∙ f
      go first enough numbers told flags used fits f = absurd (none_some r f)

  form_taken : (command : Text) (words : List Text) (r : Request) → option_and_then (plainly_asked form) (pieces (options_of form) (flags_of form) words) ≡ Some r → taken_by form (command ∷ words) ≡ Some r
  form_taken command words r =
      by_pieces (options_of form) (flags_of form) words (plainly_asked form) (taken_by form (command ∷ words)) r (λ ps cut. by_names command words ps cut r)

-- each command is one of these
pub sound : list_all is_sound commands ≡ true
unfolding clap_on_literals
sound = refl

pub plain_taken : (words : List Text) (r : Request) → plain words ≡ Some r → taken words ≡ Some r
plain_taken [] r e = absurd (none_some r e)
plain_taken (command ∷ words) r e = go (form_named command) refl e
  where
    go : (o : Option Form) → form_named command ≡ o → option_and_then (λ form. option_and_then (plainly_asked form) (pieces (options_of form) (flags_of form) words)) o ≡ Some r
        → option_and_then (λ form. taken_by form (command ∷ words)) o ≡ Some r
    go None named f = absurd (none_some r f)
    go (Some form) named f =
        form_taken form (sound_is form (found_passes (λ (other : Form). bytes_eq command other.name) is_sound commands form named sound)) command words r f
