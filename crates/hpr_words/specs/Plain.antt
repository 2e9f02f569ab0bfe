-- Words in their plain form, and what they ask for, read straight from the words.
--
-- is_name word                  == the word is not empty and doesn't begin with `-`
-- is_among word words           == the word is one of these
-- Piece                         == a name, a value that an option is given, or a flag
-- begun piece rest              == the rest with this piece before it, if there is a rest
-- pieces options flags words    == the words behind the command cut into names, option words, each with the
--                                  value behind it, and flags, if they are such
-- names ps                      == the names, in order
-- values option ps              == the values that the option is given, in order
-- uses f ps                     == how often the flag stands there
-- behind n ps                   == the pieces behind the first n names
-- has_no_name ps                == no piece is a name
-- goes_on ps                    == behind a name: nothing stands between that name and another
-- is_unbroken ps                == nothing stands between two names
-- is_numeral word               == decimal digits without leading zeros
-- number most word              == the number that they spell, if it is from 1 to most
-- plain_number option words     == the number of the one word; where there is none, the option's default, if
--                                  it has one
-- is_used n                     == whether a flag stands there that stands there n times, if not twice
-- dashed id                     == the word of the option or flag of this name
-- options_of form               == the words of the command's options
-- flags_of form                 == the words of its flags
-- first_names ids ns            == the first names, one for each of these positionals, if there are so many
-- names_left ids ns             == the names behind them
-- fits_list list ws             == the command has such a list: words only if it has a list, and one at least
--                                  where that must be given
-- fits_words form ns            == where the command's positionals are numbers, each of these names is
--                                  decimal digits without leading zeros
-- number_at ps option           == the number that the pieces give the option
-- flag_at ps id                 == whether they give the flag
-- plainly_asked form ps         == what the pieces ask of the command, the list unbroken
-- plain words                   == the request that plain words spell
use Rattle.std.specs.Prelude.{ℕ, Bool, true, false, not, ◌&&◌, ◌||◌, ◌==◌, List, [], ◌∷◌, map, length, Option, Some, None, is_some, slice_get, option_map, option_and_then, if◌then◌else◌, nat_le, zero, suc}
use Rattle.std.specs.List.{list_all, list_any}
use Rattle.std.specs.Char.{is_digit}
use Rattle.std.specs.Str.{bytes_eq}
use Rattle.std.specs.Str.Parse.{digits_value}
use Rattle.hpr_words.specs.Commands.{Form, NumberOption, asked_with, form_named}
use Rattle.hpr_words.specs.Request.{Request, Text}
use Rattle.hpr_words.specs.Taken.{all_some}

-- 45 is `-`
abbrev pub is_name : Text → Bool
is_name [] = false
is_name (byte ∷ bytes) = not (byte == 45)

abbrev pub is_among : Text → List Text → Bool
is_among word = list_any (bytes_eq word)

pub data Piece : Type 0 where
  name : Text → Piece
  given : (option value : Text) → Piece
  flag : Text → Piece

abbrev pub begun : Piece → Option (List Piece) → Option (List Piece)
begun piece = option_map (λ ps. piece ∷ ps)

abbrev pub pieces : (options flags words : List Text) → Option (List Piece)
pieces options flags [] = Some []
pieces options flags (word ∷ []) =
    if is_name word then Some (name word ∷ [])
    else (if is_among word flags then Some (flag word ∷ [])
    else None)
pieces options flags (word ∷ next ∷ words) =
    if is_name word then begun (name word) (pieces options flags (next ∷ words))
    else (if is_among word flags then begun (flag word) (pieces options flags (next ∷ words))
    else (if is_among word options then begun (given word next) (pieces options flags words)
    else None))

abbrev pub names : List Piece → List Text
names [] = []
names (name word ∷ ps) = word ∷ names ps
names (given option value ∷ ps) = names ps
names (flag word ∷ ps) = names ps

abbrev pub values : Text → List Piece → List Text
values option [] = []
values option (name word ∷ ps) = values option ps
values option (given word value ∷ ps) = if bytes_eq word option then value ∷ values option ps else values option ps
values option (flag word ∷ ps) = values option ps

abbrev pub uses : Text → List Piece → ℕ
uses f [] = zero
uses f (name word ∷ ps) = uses f ps
uses f (given option value ∷ ps) = uses f ps
uses f (flag word ∷ ps) = if bytes_eq word f then suc (uses f ps) else uses f ps

abbrev pub behind : ℕ → List Piece → List Piece
behind zero ps = ps
behind (suc n) [] = []
behind (suc n) (name word ∷ ps) = behind n ps
behind (suc n) (given option value ∷ ps) = behind (suc n) ps
behind (suc n) (flag word ∷ ps) = behind (suc n) ps

abbrev pub has_no_name : List Piece → Bool
has_no_name [] = true
has_no_name (name word ∷ ps) = false
has_no_name (given option value ∷ ps) = has_no_name ps
has_no_name (flag word ∷ ps) = has_no_name ps

-- where the last piece was a name
abbrev pub goes_on : List Piece → Bool
goes_on [] = true
goes_on (name word ∷ ps) = goes_on ps
goes_on (given option value ∷ ps) = has_no_name ps
goes_on (flag word ∷ ps) = has_no_name ps

abbrev pub is_unbroken : List Piece → Bool
is_unbroken [] = true
is_unbroken (name word ∷ ps) = goes_on ps
is_unbroken (given option value ∷ ps) = is_unbroken ps
is_unbroken (flag word ∷ ps) = is_unbroken ps

-- 48 is `0`
abbrev pub is_numeral : Text → Bool
is_numeral [] = false
is_numeral (digit ∷ []) = is_digit digit 10
is_numeral (digit ∷ digits) = not (digit == 48) && list_all (λ d. is_digit d 10) (digit ∷ digits)

abbrev pub number : ℕ → Text → Option ℕ
number most word =
    let n = digits_value 10 word in
    if is_numeral word && (nat_le 1 n && nat_le n most) then Some n else None

abbrev pub plain_number : NumberOption → List Text → Option ℕ
plain_number option [] = option.default
plain_number option (word ∷ []) = number option.most word
plain_number option _ = None

abbrev pub is_used : ℕ → Option Bool
is_used zero = Some false
is_used (suc zero) = Some true
is_used (suc (suc n)) = None

abbrev pub dashed : Text → Text
dashed id = 45 ∷ 45 ∷ id

abbrev pub options_of : Form → List Text
options_of form = map (λ (option : NumberOption). dashed option.id) form.numbers

abbrev pub flags_of : Form → List Text
flags_of form = map dashed form.flags

abbrev pub first_names : List Text → List Text → Option (List Text)
first_names [] ns = Some []
first_names (id ∷ ids) [] = None
first_names (id ∷ ids) (n ∷ ns) = option_map (λ first. n ∷ first) (first_names ids ns)

abbrev pub names_left : List Text → List Text → List Text
names_left [] ns = ns
names_left (id ∷ ids) [] = []
names_left (id ∷ ids) (n ∷ ns) = names_left ids ns

abbrev pub fits_list : Option (Text × Bool) → List Text → Bool
fits_list None ws = not (is_some (slice_get ws 0))
fits_list (Some list) ws = not list.1 || is_some (slice_get ws 0)

abbrev pub fits_words : Form → List Text → Bool
fits_words form ns = not form.are_numbers || list_all is_numeral ns

abbrev pub number_at : List Piece → NumberOption → Option ℕ
number_at ps option = plain_number option (values (dashed option.id) ps)

abbrev pub flag_at : List Piece → Text → Option Bool
flag_at ps id = is_used (uses (dashed id) ps)

abbrev pub plainly_asked : Form → List Piece → Option Request
plainly_asked form ps =
    let left = names_left form.words (names ps) in
    if fits_words form (names ps) && (is_unbroken (behind (length form.words) ps) && fits_list form.list left)
    then asked_with form (first_names form.words (names ps)) left (all_some (map (number_at ps) form.numbers)) (all_some (map (flag_at ps) form.flags))
    else None

abbrev pub plain : List Text → Option Request
plain [] = None
plain (command ∷ words) = option_and_then (λ form. option_and_then (plainly_asked form) (pieces (options_of form) (flags_of form) words)) (form_named command)
