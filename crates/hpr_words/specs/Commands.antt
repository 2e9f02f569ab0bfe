-- The commands as data, each without subcommands: what it takes, and what it asks for.
--
-- NumberOption            == the option `--id`: a number from 1 to most; where it isn't given, `default`;
--                            where there is no default, it must be given
-- Form                    == a command: its name; its positionals of one word, which must be given, and
--                            whether they are numbers; behind them a list of words, if it has one, and
--                            whether a word of it must be given; its options; its flags; and what it asks
--                            for, by the words, the list, the numbers and whether each flag is given
-- tries, steps, author    == the options
-- integrate_of ws l ns fs == the request of a base, its variants, two or more up to their limit, and a number
-- run_of ws l ns fs       == the request of a file, states, a number and a flag
-- graph_of ws l ns fs     == the request of a file and a flag
-- slice_of ws l ns fs     == the request of a file, one point or more and a flag
-- affected_of ws l ns fs  == the request of two names
-- trial_of ws l ns fs     == the request of three names, states and a number
-- edit_of ws l ns fs      == the request of a file, a script and a number
-- tag_of ws l ns fs       == the request of a file and a number
-- number_within least most text == the number from least to most that `clap` reads in a text
-- sample_of ws l ns fs    == the request of two words that are numbers
-- verify_of ws l ns fs    == the request of four names
-- integrate_form          == `integrate BASE V1 V2.. [--tries N]`
-- run_form                == `run FILE [STATE..] [--steps N] [--trace]`
-- graph_form              == `graph FILE [--json]`
-- slice_form              == `slice FILE POINT.. [--program]`
-- affected_form           == `affected BASE A`
-- trial_form              == `trial BASE A B [STATE..] [--steps N]`
-- edit_form               == `edit FILE SCRIPT --author N`
-- tag_form                == `tag FILE --author N`
-- sample_form             == `sample SEED PARTS`
-- verify_form             == `verify BASE A B M`
-- commands                == all of them
-- form_named name         == the command of this name, if there is one
-- asked_with form ws l ns fs == what the command asks for, where it is given all of these
-- word_rule id            == a positional of one word, which must be given, as `clap` has it
-- list_rule list          == a positional of any number of words, or of one word or more
-- number_rule id most needed == the option `--id`, whose value is a number from 1 to most, and which must be
--                               given or not
-- flag_rule id            == the flag `--id`
-- form_rules form         == what the command takes, as `clap` has it
-- form_app form           == the command, as `clap` has it
use Rattle.std.specs.Prelude.{ℕ, ◌-◌, Bool, true, false, not, List, [], ◌∷◌, ◌++◌, map, find, Option, Some, None, is_some, length, nat_le, option_to_list, option_and_then, option_map, if◌then◌else◌, codes}
use Rattle.std.specs.Str.{bytes_eq}
use Rattle.std.specs.Str.Parse.{digits_value, without_leading_plus}
use Rattle.hpr_terms.specs.declared.limits.TheConstants.{DEFAULT_STEPS, DEFAULT_TRIES, MAX_PARTS, MAX_STEPS, MAX_TAG_NUMBER, MAX_TRIES, MAX_VARIANTS}
use Rattle.clap.specs.Simple.{on_top}
use Rattle.clap.specs.ValueTests.{accepts}
use Rattle.clap.specs.Words.{App, Rule, new_app, new_rule}
use Rattle.clap.specs.declared.builder.action.ArgAction.TheVariants.{Append, SetTrue}
use Rattle.clap.specs.declared.builder.value_parser.ValueParser.TheVariants.{Unsigned}
use Rattle.hpr_words.specs.Request.{Request, Text, affected, edit, graph, integrate, integrate_many, run, sample, slice, tag, trial, verify}

pub record NumberOption : Type 0 where
  pub id : Text
  pub most : ℕ
  pub default : Option ℕ

pub record Form : Type 0 where
  pub name : Text
  pub words : List Text
  pub are_numbers : Bool
  pub list : Option (Text × Bool)
  pub numbers : List NumberOption
  pub flags : List Text
  pub asks : (words list : List Text) (numbers : List ℕ) (flags : List Bool) → Option Request

-- ---- the options

abbrev pub tries : NumberOption
tries = record { id = codes "tries"; most = MAX_TRIES; default = Some DEFAULT_TRIES }

abbrev pub steps : NumberOption
steps = record { id = codes "steps"; most = MAX_STEPS; default = Some DEFAULT_STEPS }

abbrev pub author : NumberOption
author = record { id = codes "author"; most = MAX_TAG_NUMBER; default = None }

-- ---- what each command asks for

abbrev pub integrate_of : (words list : List Text) (numbers : List ℕ) (flags : List Bool) → Option Request
integrate_of (base ∷ []) (a ∷ b ∷ []) (n ∷ []) flags = Some (integrate base a b n)
integrate_of (base ∷ []) (a ∷ b ∷ c ∷ more) (n ∷ []) flags =
    if nat_le (length (a ∷ b ∷ c ∷ more)) MAX_VARIANTS then Some (integrate_many base (a ∷ b ∷ c ∷ more) n) else None
integrate_of _ _ _ _ = None

abbrev pub run_of : (words list : List Text) (numbers : List ℕ) (flags : List Bool) → Option Request
run_of (file ∷ []) states (n ∷ []) (trace ∷ []) = Some (run file states n trace)
run_of _ _ _ _ = None

abbrev pub graph_of : (words list : List Text) (numbers : List ℕ) (flags : List Bool) → Option Request
graph_of (file ∷ []) list numbers (json ∷ []) = Some (graph file json)
graph_of _ _ _ _ = None

abbrev pub slice_of : (words list : List Text) (numbers : List ℕ) (flags : List Bool) → Option Request
slice_of (file ∷ []) (point ∷ points) numbers (program ∷ []) = Some (slice file (point ∷ points) program)
slice_of _ _ _ _ = None

abbrev pub affected_of : (words list : List Text) (numbers : List ℕ) (flags : List Bool) → Option Request
affected_of (base ∷ a ∷ []) list numbers flags = Some (affected base a)
affected_of _ _ _ _ = None

abbrev pub trial_of : (words list : List Text) (numbers : List ℕ) (flags : List Bool) → Option Request
trial_of (base ∷ a ∷ b ∷ []) states (n ∷ []) flags = Some (trial base a b states n)
trial_of _ _ _ _ = None

abbrev pub edit_of : (words list : List Text) (numbers : List ℕ) (flags : List Bool) → Option Request
edit_of (file ∷ script ∷ []) list (n ∷ []) flags = Some (edit file script n)
edit_of _ _ _ _ = None

abbrev pub tag_of : (words list : List Text) (numbers : List ℕ) (flags : List Bool) → Option Request
tag_of (file ∷ []) list (n ∷ []) flags = Some (tag file n)
tag_of _ _ _ _ = None

abbrev pub number_within : (least most : ℕ) → Text → Option ℕ
number_within least most text = if accepts false (Unsigned least most) text then Some (digits_value 10 (without_leading_plus text)) else None

abbrev pub sample_of : (words list : List Text) (numbers : List ℕ) (flags : List Bool) → Option Request
sample_of (seed ∷ parts ∷ []) list numbers flags =
    option_and_then (λ s. option_map (λ n. sample s n) (number_within 1 (MAX_PARTS - 2) parts)) (number_within 0 18446744073709551615 seed)
sample_of _ _ _ _ = None

abbrev pub verify_of : (words list : List Text) (numbers : List ℕ) (flags : List Bool) → Option Request
verify_of (base ∷ a ∷ b ∷ offered ∷ []) list numbers flags = Some (verify base a b offered)
verify_of _ _ _ _ = None

-- ---- the commands

abbrev pub integrate_form : Form
integrate_form = record {
  name = codes "integrate";
  words = codes "base" ∷ [];
  are_numbers = false;
  list = Some (codes "variant", true);
  numbers = tries ∷ [];
  flags = [];
  asks = integrate_of;
}

abbrev pub run_form : Form
run_form = record {
  name = codes "run";
  words = codes "file" ∷ [];
  are_numbers = false;
  list = Some (codes "state", false);
  numbers = steps ∷ [];
  flags = codes "trace" ∷ [];
  asks = run_of;
}

abbrev pub graph_form : Form
graph_form = record {
  name = codes "graph";
  words = codes "file" ∷ [];
  are_numbers = false;
  list = None;
  numbers = [];
  flags = codes "json" ∷ [];
  asks = graph_of;
}

abbrev pub slice_form : Form
slice_form = record {
  name = codes "slice";
  words = codes "file" ∷ [];
  are_numbers = false;
  list = Some (codes "point", true);
  numbers = [];
  flags = codes "program" ∷ [];
  asks = slice_of;
}

abbrev pub affected_form : Form
affected_form = record {
  name = codes "affected";
  words = codes "base" ∷ codes "a" ∷ [];
  are_numbers = false;
  list = None;
  numbers = [];
  flags = [];
  asks = affected_of;
}

abbrev pub trial_form : Form
trial_form = record {
  name = codes "trial";
  words = codes "base" ∷ codes "a" ∷ codes "b" ∷ [];
  are_numbers = false;
  list = Some (codes "state", false);
  numbers = steps ∷ [];
  flags = [];
  asks = trial_of;
}

abbrev pub edit_form : Form
edit_form = record {
  name = codes "edit";
  words = codes "file" ∷ codes "script" ∷ [];
  are_numbers = false;
  list = None;
  numbers = author ∷ [];
  flags = [];
  asks = edit_of;
}

abbrev pub tag_form : Form
tag_form = record {
  name = codes "tag";
  words = codes "file" ∷ [];
  are_numbers = false;
  list = None;
  numbers = author ∷ [];
  flags = [];
  asks = tag_of;
}

abbrev pub sample_form : Form
sample_form = record {
  name = codes "sample";
  words = codes "seed" ∷ codes "parts" ∷ [];
  are_numbers = true;
  list = None;
  numbers = [];
  flags = [];
  asks = sample_of;
}

abbrev pub verify_form : Form
verify_form = record {
  name = codes "verify";
  words = codes "base" ∷ codes "a" ∷ codes "b" ∷ codes "offered" ∷ [];
  are_numbers = false;
  list = None;
  numbers = [];
  flags = [];
  asks = verify_of;
}

abbrev pub commands : List Form
commands = integrate_form ∷ run_form ∷ graph_form ∷ slice_form ∷ affected_form ∷ trial_form ∷ edit_form ∷ tag_form ∷ sample_form ∷ verify_form ∷ []

abbrev pub form_named : Text → Option Form
form_named name = find (λ form. bytes_eq name form.name) commands

abbrev pub asked_with : Form → Option (List Text) → List Text → Option (List ℕ) → Option (List Bool) → Option Request
asked_with form (Some words) list (Some numbers) (Some flags) = form.asks words list numbers flags
asked_with form _ list _ _ = None

-- ---- as `clap` has them

abbrev pub word_rule : Text → Rule
word_rule id = record (new_rule id) { required = true }

abbrev pub list_rule : Text × Bool → Rule
list_rule list = record (new_rule list.0) { action = Some Append; required = list.1 }

abbrev pub number_rule : Text → ℕ → Bool → Rule
number_rule id most needed = record (new_rule id) { long = Some id; parser = Some (Unsigned 1 most); required = needed }

abbrev pub flag_rule : Text → Rule
flag_rule id = record (new_rule id) { long = Some id; action = Some SetTrue }

abbrev pub form_rules : Form → List Rule
form_rules form = map word_rule form.words ++ (map list_rule (option_to_list form.list)
    ++ (map (λ option. number_rule option.id option.most (not (is_some option.default))) form.numbers ++ map flag_rule form.flags))

abbrev pub form_app : Form → App
form_app form = on_top (λ top. record top { rules = form_rules form }) (new_app form.name)
