-- The commands as data: what each takes, and what it asks for.
--
-- Form                       == a command: its name; its positionals of one word, which must be given; behind
--                               them a list of words, if it has one, of which one must be given; its options
--                               of numbers, as hpr's commands have them; its flags; and what it asks for, by
--                               the words, the list, the numbers and whether each flag is given
-- format_of ws l ns fs       == what is asked of a file, and of the flags of which at most one is given; the
--                               stream `-` gets no text
-- place_of ws l ns fs        == what is asked of a file and a word that is a number of 64 bits
-- tag_of ws l ns fs          == what is asked of a file, an author's number and a flag
-- graph_of ws l ns fs        == what is asked of a file and flags, of which one says how a graph is told, and
--                               the others what a picture leaves out
-- impact_of ws l ns fs       == what is asked of a file, one point or more, and at most one flag
-- affected_of ws l ns fs     == what is asked of two names
-- conflicts_of ws l ns fs    == what is asked of a base and its variants, two or more up to their limit
-- merge_of ws l ns fs        == what is asked of the same and a number of tries
-- format_form                == `fmt FILE [--check | --in-place]`
-- at_form                    == `at FILE BYTE`
-- tag_form                   == `tag FILE --author N [--keep]`
-- graph_form                 == `graph FILE --json | --dot [--no-control] [--no-flow] [--no-order]`
-- impact_form                == `impact FILE POINT.. [--json | --marks]`
-- affected_form              == `affected BASE V`
-- conflicts_form             == `conflicts BASE V1 V2..`
-- merge_form                 == `merge BASE V1 V2.. [--tries N]`
-- commands                   == all of them
-- form_named name            == the command of this name, if there is one
-- asked_with form ws l ns fs == what the command asks for, where it is given all of these
-- form_rules form            == what the command takes, as `clap` has it
-- form_app form              == the command, as `clap` has it
use Rattle.std.specs.Prelude.{ℕ, Bool, true, false, not, List, [], ◌∷◌, ◌++◌, map, find, Option, Some, None, is_some, option_map, option_to_list, if◌then◌else◌, length, nat_le, codes}
use Rattle.std.specs.Str.{bytes_eq}
use Rattle.clap.specs.Simple.{on_top}
use Rattle.clap.specs.Words.{App, Rule, new_app}
use Rattle.hpr_terms.specs.declared.limits.TheConstants.{MAX_VARIANTS}
use Rattle.hpr_words.specs.Commands.{NumberOption, author, flag_rule, list_rule, number_rule, number_within, tries, word_rule}
use Rattle.hpr_words.specs.Request.{Text}
use Rattle.hprkit_words.specs.Ask.{Ask, affected, conflicts, format, graph, impact, merge, place, tag}
use Rattle.hprkit_words.specs.declared.forms.FormatForm.TheVariants as form
use Rattle.hprkit_words.specs.declared.forms.GraphForm.TheVariants.{Dot, Json}
use Rattle.hprkit_words.specs.declared.forms.ImpactForm.TheVariants as told

pub record Form : Type 0 where
  pub name : Text
  pub words : List Text
  pub list : Option Text
  pub numbers : List NumberOption
  pub flags : List Text
  pub asks : (words list : List Text) (numbers : List ℕ) (flags : List Bool) → Option Ask

-- ---- what each command asks for

abbrev pub format_of : (words list : List Text) (numbers : List ℕ) (flags : List Bool) → Option Ask
format_of (file ∷ []) list numbers (false ∷ false ∷ []) = Some (format file form.Print)
format_of (file ∷ []) list numbers (true ∷ false ∷ []) = Some (format file form.Check)
format_of (file ∷ []) list numbers (false ∷ true ∷ []) =
    if bytes_eq file (codes "-") then None else Some (format file form.InPlace)
format_of _ _ _ _ = None

abbrev pub place_of : (words list : List Text) (numbers : List ℕ) (flags : List Bool) → Option Ask
place_of (file ∷ byte ∷ []) list numbers flags =
    option_map (λ n. place file n) (number_within 0 18446744073709551615 byte)
place_of _ _ _ _ = None

abbrev pub tag_of : (words list : List Text) (numbers : List ℕ) (flags : List Bool) → Option Ask
tag_of (file ∷ []) list (n ∷ []) (keep ∷ []) = Some (tag file n keep)
tag_of _ _ _ _ = None

abbrev pub graph_of : (words list : List Text) (numbers : List ℕ) (flags : List Bool) → Option Ask
graph_of (file ∷ []) list numbers (true ∷ false ∷ false ∷ false ∷ false ∷ []) = Some (graph file Json)
graph_of (file ∷ []) list numbers (false ∷ true ∷ control ∷ flow ∷ order ∷ []) =
    Some (graph file (Dot (record { control = control; flow = flow; order = order })))
graph_of _ _ _ _ = None

abbrev pub impact_of : (words list : List Text) (numbers : List ℕ) (flags : List Bool) → Option Ask
impact_of (file ∷ []) points numbers (false ∷ false ∷ []) = Some (impact file points told.Points)
impact_of (file ∷ []) points numbers (true ∷ false ∷ []) = Some (impact file points told.Json)
impact_of (file ∷ []) points numbers (false ∷ true ∷ []) = Some (impact file points told.Marks)
impact_of _ _ _ _ = None

abbrev pub affected_of : (words list : List Text) (numbers : List ℕ) (flags : List Bool) → Option Ask
affected_of (base ∷ variant ∷ []) list numbers flags = Some (affected base variant)
affected_of _ _ _ _ = None

abbrev pub conflicts_of : (words list : List Text) (numbers : List ℕ) (flags : List Bool) → Option Ask
conflicts_of (base ∷ []) (a ∷ b ∷ more) numbers flags =
    if nat_le (length (a ∷ b ∷ more)) MAX_VARIANTS then Some (conflicts base (a ∷ b ∷ more)) else None
conflicts_of _ _ _ _ = None

abbrev pub merge_of : (words list : List Text) (numbers : List ℕ) (flags : List Bool) → Option Ask
merge_of (base ∷ []) (a ∷ b ∷ more) (n ∷ []) flags =
    if nat_le (length (a ∷ b ∷ more)) MAX_VARIANTS then Some (merge base (a ∷ b ∷ more) n) else None
merge_of _ _ _ _ = None

-- ---- the commands

abbrev pub format_form : Form
format_form = record {
  name = codes "fmt";
  words = codes "file" ∷ [];
  list = None;
  numbers = [];
  flags = codes "check" ∷ codes "in-place" ∷ [];
  asks = format_of;
}

abbrev pub at_form : Form
at_form = record {
  name = codes "at";
  words = codes "file" ∷ codes "byte" ∷ [];
  list = None;
  numbers = [];
  flags = [];
  asks = place_of;
}

abbrev pub tag_form : Form
tag_form = record {
  name = codes "tag";
  words = codes "file" ∷ [];
  list = None;
  numbers = author ∷ [];
  flags = codes "keep" ∷ [];
  asks = tag_of;
}

abbrev pub graph_form : Form
graph_form = record {
  name = codes "graph";
  words = codes "file" ∷ [];
  list = None;
  numbers = [];
  flags = codes "json" ∷ codes "dot" ∷ codes "no-control" ∷ codes "no-flow" ∷ codes "no-order" ∷ [];
  asks = graph_of;
}

abbrev pub impact_form : Form
impact_form = record {
  name = codes "impact";
  words = codes "file" ∷ [];
  list = Some (codes "point");
  numbers = [];
  flags = codes "json" ∷ codes "marks" ∷ [];
  asks = impact_of;
}

abbrev pub affected_form : Form
affected_form = record {
  name = codes "affected";
  words = codes "base" ∷ codes "variant" ∷ [];
  list = None;
  numbers = [];
  flags = [];
  asks = affected_of;
}

abbrev pub conflicts_form : Form
conflicts_form = record {
  name = codes "conflicts";
  words = codes "base" ∷ [];
  list = Some (codes "variant");
  numbers = [];
  flags = [];
  asks = conflicts_of;
}

abbrev pub merge_form : Form
merge_form = record {
  name = codes "merge";
  words = codes "base" ∷ [];
  list = Some (codes "variant");
  numbers = tries ∷ [];
  flags = [];
  asks = merge_of;
}

abbrev pub commands : List Form
commands =
    format_form ∷ at_form ∷ tag_form ∷ graph_form ∷ impact_form ∷ affected_form ∷ conflicts_form ∷ merge_form
    ∷ []

abbrev pub form_named : Text → Option Form
form_named name = find (λ form. bytes_eq name form.name) commands

abbrev pub asked_with : Form → Option (List Text) → List Text → Option (List ℕ) → List Bool → Option Ask
asked_with form (Some words) list (Some numbers) flags = form.asks words list numbers flags
asked_with form _ list _ flags = None

-- ---- as `clap` has them

abbrev pub form_rules : Form → List Rule
form_rules form = map word_rule form.words
    ++ (map (λ id. list_rule (id, true)) (option_to_list form.list)
    ++ (map (λ option. number_rule option.id option.most (not (is_some option.default))) form.numbers
    ++ map flag_rule form.flags))

abbrev pub form_app : Form → App
form_app form = on_top (λ top. record top { rules = form_rules form }) (new_app form.name)
