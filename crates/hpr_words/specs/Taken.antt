-- What the words of a command line ask for, by what `clap` takes.
--
-- number_of most text      == the number from 1 to most that `clap` reads in a text
-- number_or default most o == the number of a text; where there is none, the default, if there is one
-- number_in option rows    == the number of an option, if it is given or has a default
-- list_in id rows          == the words of a list, none where it isn't given
-- listed_in list rows      == the same for the list of a command; none where it has no list
-- flag_in id rows          == whether a flag is given
-- all_some os              == what all of them are, if each is there
-- asked_in form rows       == the request of the command, whose arguments have these rows
-- taken_by form words      == the request of the command, where `clap` takes the words for it
-- taken words              == the first word picks the command, which takes the words or doesn't
use Rattle.std.specs.Prelude.{ℕ, Bool, false, List, [], ◌∷◌, map, Option, Some, None, codes, if◌then◌else◌, option_and_then, option_map, unwrap_or}
use Rattle.std.specs.Option.{option_map_or}
use Rattle.std.specs.Str.{bytes_eq}
use Rattle.clap.specs.Words.{Row, all_of, fault_of, first_of, matches_of}
use Rattle.clap.specs.Walk.{is_empty}
use Rattle.hpr_words.specs.Commands.{Form, NumberOption, asked_with, form_app, form_named, number_within}
use Rattle.hpr_words.specs.Request.{Request, Text}

abbrev pub number_of : ℕ → Text → Option ℕ
number_of most text = number_within 1 most text

abbrev pub number_or : Option ℕ → ℕ → Option Text → Option ℕ
number_or default most None = default
number_or default most (Some text) = number_of most text

abbrev pub number_in : NumberOption → List Row → Option ℕ
number_in option rows = number_or option.default option.most (first_of option.id rows)

abbrev pub list_in : Text → List Row → List Text
list_in id rows = unwrap_or (all_of id rows) []

abbrev pub listed_in : Option (Text × Bool) → List Row → List Text
listed_in None rows = []
listed_in (Some list) rows = list_in list.0 rows

-- a flag that is given has the value `true`, else `false`
abbrev pub flag_in : Text → List Row → Bool
flag_in id rows = option_map_or (λ text. bytes_eq text (codes "true")) (first_of id rows) false

abbrev pub all_some : {X : Type 0} → List (Option X) → Option (List X)
all_some [] = Some []
all_some (o ∷ os) = option_and_then (λ x. option_map (λ xs. x ∷ xs) (all_some os)) o

abbrev pub asked_in : Form → List Row → Option Request
asked_in form rows = asked_with form (all_some (map (λ id. first_of id rows) form.words)) (listed_in form.list rows)
    (all_some (map (λ option. number_in option rows) form.numbers)) (Some (map (λ id. flag_in id rows) form.flags))

abbrev pub taken_by : Form → List Text → Option Request
taken_by form words = if is_empty (fault_of (form_app form) words) then asked_in form (matches_of (form_app form) words) else None

abbrev pub taken : List Text → Option Request
taken [] = None
taken (command ∷ words) = option_and_then (λ form. taken_by form (command ∷ words)) (form_named command)
