-- What the words of a call ask for, by what `clap` takes.
--
-- listed_in list rows == the words of the list of a command; none where it has no list
-- asked_in form rows  == what is asked of the command, whose arguments have these rows
-- taken_by form words == what is asked of the command, where `clap` takes the words for it
-- commanded words     == the first word picks the command, which takes the words or doesn't
-- asks_help words     == one of the words is `--help`
-- asks_version words  == the only word is `--version`
-- taken words         == the help or the version, where the words ask for it; else what they ask of a command
use Rattle.std.specs.Prelude.{Bool, true, false, List, [], ◌∷◌, map, Option, Some, None, codes, if◌then◌else◌, option_and_then}
use Rattle.std.specs.Str.{bytes_eq}
use Rattle.clap.specs.Words.{Row, fault_of, first_of, matches_of}
use Rattle.clap.specs.Walk.{is_empty}
use Rattle.hpr_words.specs.Request.{Text}
use Rattle.hpr_words.specs.Taken.{all_some, flag_in, list_in, number_in}
use Rattle.hprkit_words.specs.Ask.{Ask, help, version}
use Rattle.hprkit_words.specs.Commands.{Form, asked_with, form_app, form_named}

abbrev pub listed_in : Option Text → List Row → List Text
listed_in None rows = []
listed_in (Some id) rows = list_in id rows

abbrev pub asked_in : Form → List Row → Option Ask
asked_in form rows =
    asked_with form (all_some (map (λ id. first_of id rows) form.words)) (listed_in form.list rows)
    (all_some (map (λ option. number_in option rows) form.numbers)) (map (λ id. flag_in id rows) form.flags)

abbrev pub taken_by : Form → List Text → Option Ask
taken_by form words =
    if is_empty (fault_of (form_app form) words) then asked_in form
    (matches_of (form_app form) words) else None

abbrev pub commanded : List Text → Option Ask
commanded [] = None
commanded (command ∷ words) = option_and_then (λ form. taken_by form (command ∷ words)) (form_named command)

abbrev pub asks_help : List Text → Bool
asks_help [] = false
asks_help (word ∷ words) = if bytes_eq word (codes "--help") then true else asks_help words

abbrev pub asks_version : List Text → Bool
asks_version (word ∷ []) = bytes_eq word (codes "--version")
asks_version _ = false

abbrev pub taken : List Text → Option Ask
taken words =
    if asks_help words then Some help else (if asks_version words then Some version else commanded words)
