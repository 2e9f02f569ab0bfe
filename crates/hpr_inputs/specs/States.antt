-- The state that words tell.
--
-- value_of text         == the number that an optional `-` and at least one digit spell, where it lies within
--                          i64
-- assignment word       == the plain name and the number that the word `name=value` gives it
-- entry word            == the same, the number as a value
-- told words            == the state in which each name has the number that a word gives it
-- RefusedWord           == a word that is refused, and why
-- refusal state word    == why a word is refused, where the words before it tell this state: it is no
--                          `name=value`, or the state lists its name
-- first_refused before words == the first of the words that is refused, where these stand before them
-- states_of words       == the state that the words tell, where none is refused, and else the first one that
--                          is
-- refused_word_text r   == the message on a word that is refused
-- OnState told next r   == r is the refusal of a state word; or r is what next says of the state
use Rattle.std.specs.Prelude.{◌≡◌, ℕ, ℤ, ◌==◌, ◌&&◌, nat_le, List, [], ◌∷◌, ◌++◌, length, Option, Some, None, option_map, Result, Ok, Err, if◌then◌else◌, codes}
use Rattle.std.specs.Char.{is_digit}
use Rattle.std.specs.FinMap.{contains_key, from_entries}
use Rattle.std.specs.List.{after_first, before_first, filter_map, list_all}
use Rattle.std.specs.Str.Parse.{signed_digits_value}
use Rattle.hpr_terms.specs.Names.{is_name}
use Rattle.hpr_syntax.specs.Value.{in_range}
use Rattle.hpr_syntax.specs.declared.value.Value.{Value}
use Rattle.hpr_syntax.specs.declared.value.Value.TheVariants.{Number}
use Rattle.hpr_syntax.specs.Values.{Values}
use Rattle.hpr_words.specs.Request.{Text}
use Rattle.hpr_refusals.specs.Reasons.{about}
use Rattle.hpr_inputs.specs.Decision.{Decision, refuses}
use Rattle.hpr_inputs.specs.declared.states.WordRefusal.{WordRefusal}
use Rattle.hpr_inputs.specs.declared.states.WordRefusal.TheVariants.{Malformed, GivenTwice}

-- 45 is `-`
abbrev pub behind_minus : Text → Text
behind_minus [] = []
behind_minus (byte ∷ bytes) = if byte == 45 then bytes else byte ∷ bytes

abbrev pub value_of : Text → Option ℤ
value_of text =
    let digits = behind_minus text in
    let number = signed_digits_value 10 text in
    if nat_le 1 (length digits) && (list_all (λ digit. is_digit digit 10) digits && in_range number) then Some number else None

-- 61 is `=`
abbrev pub assignment : Text → Option (Text × ℤ)
assignment word =
    let name = before_first (λ byte. byte == 61) word in
    if is_name name then option_map (λ value. (name, value)) (value_of (after_first (λ byte. byte == 61) word)) else None

abbrev pub entry : Text → Option (Text × Value)
entry word = option_map (λ given. (given.0, Number given.1)) (assignment word)

abbrev pub told : List Text → Values
told words = from_entries (filter_map entry words)

abbrev pub refusal_of : Values → Option (Text × ℤ) → Option WordRefusal
refusal_of state None = Some Malformed
refusal_of state (Some given) = if contains_key state given.0 then Some GivenTwice else None

abbrev pub refusal : Values → Text → Option WordRefusal
refusal state word = refusal_of state (assignment word)

pub record RefusedWord : Type 0 where
  pub word : Text
  pub why : WordRefusal

abbrev pub refused_or : Text → Option WordRefusal → Option RefusedWord → Option RefusedWord
refused_or word (Some why) later = Some (record { word = word; why = why })
refused_or word None later = later

abbrev pub first_refused : List Text → List Text → Option RefusedWord
first_refused before [] = None
first_refused before (word ∷ words) = refused_or word (refusal (told before) word) (first_refused (before ++ word ∷ []) words)

abbrev pub state_unless : Option RefusedWord → Values → Result Values RefusedWord
state_unless (Some refused) state = Err refused
state_unless None state = Ok state

abbrev pub states_of : List Text → Result Values RefusedWord
states_of words = state_unless (first_refused [] words) (told words)

abbrev pub word_reason : WordRefusal → List ℕ
word_reason Malformed = codes "no state word"
word_reason GivenTwice = codes "variable given twice"

abbrev pub refused_word_text : RefusedWord → List ℕ
refused_word_text r = about r.word (word_reason r.why)

abbrev pub OnState : Result Values RefusedWord → (Values → Type 0) → Decision → Type 0
OnState (Ok state) next r = next state
OnState (Err refused) next r = r ≡ refuses (refused_word_text refused)
