-- The machine that reads the tokens of a script.
--
-- State            == what was read, and what was read last: a token of a command's head, or a token of a
--                     content; `lost` is behind a name where one of the words of scripts stands, and nothing
--                     leads on from it
-- with_command c f == one more command was read
-- with_finals f    == a command `finals` with the names was read
-- with_plain p f   == a command without a content was read
-- without_names f  == no variable of `finals` has ended
-- with_last x f    == the last variable of `finals` is x
-- with_variable o f == one more variable of `finals` has ended, if o is one
-- with_last_ended f == a sign that ends the last variable of `finals` was read
-- with_array f     == the last variable of `finals` is the array of the name that it was, if that was a plain
--                     name
-- with_array_of o f == the same, by the name o
-- filled h c       == the command with the content c
-- turned f turn    == at what comes next
-- at_head o        == at the place of a head, if there is one
-- at_turn o        == at what comes next, if something does
-- found_at, turns_at, turns_to == what was found, with what comes next, if something does
-- at_array o       == behind the name and `[` of the last variable of `finals`, if it has an array
-- word_turn        == the same behind a word of scripts
-- variable_turn f s x q == the same, the place q, behind the variable x, which may be any
-- name_turn f s x  == what comes next behind the name x, if it can stand there
-- keyword_turn f s k == what comes next behind the keyword k, if it can stand there: where a variable can,
--                       the stream's word
-- number_after f s n == what comes next behind the number n, if it can stand there
-- last_ended f s   == at the place s behind the last variable of `finals`
-- dot_stage, close_square_stage, comma_after, close_after, opened, square_opened, ended == where one sign
--       leads, if it can stand there
-- sign_after f sign s == the place of the head behind the sign, if it can stand there
-- or_lost o        == lost, where no place is next
-- name_next wants o == the state behind a name: where a word of scripts is wanted, it may be lost
-- content_goes f h o == the content goes on, or its `;` was read
-- head_next f s t  == the state after the token t of a head
-- next s t         == the state after the token, if the token can stand next
-- start            == nothing was read
-- ends_script s    == a command may begin there, so a script may end
-- is_end s         == a script may end here
-- commands_of s    == the commands that were read
use Rattle.std.specs.Prelude.{ℕ, Bool, true, false, if◌then◌else◌, List, [], ◌∷◌, ◌++◌, Option, Some, None}
use Rattle.hpr_terms.specs.declared.keyword.Keyword.{Keyword}
use Rattle.hpr_terms.specs.declared.keyword.Keyword.TheVariants.{Out}
use Rattle.hpr_terms.specs.declared.token.Sign.{Sign}
use Rattle.hpr_terms.specs.declared.token.Sign.TheVariants.{Dot, Comma, Semicolon, Open, Close, OpenSquare, CloseSquare}
use Rattle.hpr_terms.specs.declared.token.Token.{Token}
use Rattle.hpr_terms.specs.declared.token.Token.TheVariants.{Word, Name, Number, Mark}
use Rattle.hpr_terms.specs.Names.{stream, is_name, array_of}
use Rattle.hpr_syntax.specs.declared.rows.Content.{Content}
use Rattle.hpr_scan.specs.Steps.{and_then}
use Rattle.hpr_text.specs.declared.content.ContentState.{ContentState}
use Rattle.hpr_text.specs.declared.content.ContentState.TheVariants.{Start, Ended}
use Rattle.hpr_text.specs.ContentMachine.{content_next}
use Rattle.hpr_edit.specs.declared.command.Command.{Command}
use Rattle.hpr_edit.specs.declared.command.Command.TheVariants as command
use Rattle.hpr_script.specs.declared.stage.Holder.{Holder}
use Rattle.hpr_script.specs.declared.stage.Holder.TheVariants as holder
use Rattle.hpr_script.specs.declared.stage.Plain.{Plain}
use Rattle.hpr_script.specs.declared.stage.Plain.TheVariants as plain
use Rattle.hpr_script.specs.declared.stage.Stage.{Stage}
use Rattle.hpr_script.specs.declared.stage.Stage.TheVariants.{AtCommand, AfterAuthor, AfterDot, AtNames, AfterOpen, AfterName, AfterNameOpen, AfterFinal, AfterComma, AtEnd}
use Rattle.hpr_script.specs.declared.stage.Turn.{Turn}
use Rattle.hpr_script.specs.declared.stage.Turn.TheVariants as turn
use Rattle.hpr_script.specs.declared.found.Found.{Found}
use Rattle.hpr_script.specs.ScriptWords.{script_word}
use Rattle.hpr_script.specs.Stages.{word_stage, wants_word, takes_name, number_turn}

pub data State : Type 0 where
  head : (found : Found) → (stage : Stage) → State
  inside : (found : Found) → (holder : Holder) → (content : ContentState) → State
  lost : State

abbrev pub nothing_found : Found
nothing_found = record { commands = []; names = []; last = None }

abbrev pub with_command : Command → Found → Found
with_command c f = record f { commands = f.commands ++ (c ∷ []) }

abbrev pub with_finals : Found → Found
with_finals f = record f { commands = f.commands ++ (command.Finals f.names ∷ []); names = [] }

abbrev pub with_plain : Plain → Found → Found
with_plain (plain.Delete t) f = with_command (command.Delete t) f
with_plain (plain.Move t p) f = with_command (command.Move t p) f
with_plain (plain.Unwrap t) f = with_command (command.Unwrap t) f
with_plain plain.Finals f = with_finals f

abbrev pub without_names : Found → Found
without_names f = record f { names = [] }

abbrev pub with_last : List ℕ → Found → Found
with_last x f = record f { last = Some x }

abbrev pub with_variable : Option (List ℕ) → Found → Found
with_variable None f = f
with_variable (Some x) f = record f { names = f.names ++ (x ∷ []); last = None }

abbrev pub with_last_ended : Found → Found
with_last_ended f = with_variable f.last f

abbrev pub with_array_of : Option (List ℕ) → Found → Option Found
with_array_of None f = None
with_array_of (Some x) f = if is_name x then Some (with_last (array_of x) f) else None

abbrev pub with_array : Found → Option Found
with_array f = with_array_of f.last f

abbrev pub filled : Holder → Content → Command
filled (holder.Insert p) c = command.Insert p c
filled (holder.Set t) c = command.Set t c
filled (holder.Wrap t) c = command.Wrap t c

abbrev pub turned : Found → Turn → State
turned f (turn.Head s) = head f s
turned f (turn.Content h) = inside f h Start

abbrev pub at_head : Option (Found × Stage) → Option State
at_head None = None
at_head (Some p) = Some (head p.0 p.1)

abbrev pub at_turn : Option (Found × Turn) → Option State
at_turn None = None
at_turn (Some p) = Some (turned p.0 p.1)

abbrev pub found_at : Found → Option Stage → Option (Found × Stage)
found_at f None = None
found_at f (Some s) = Some (f, s)

abbrev pub turns_at : Found → Option Turn → Option (Found × Turn)
turns_at f None = None
turns_at f (Some t) = Some (f, t)

abbrev pub turns_to : Found → Option Stage → Option (Found × Turn)
turns_to f None = None
turns_to f (Some s) = Some (f, turn.Head s)

abbrev pub word_turn : Found → Stage → List ℕ → Option (Found × Turn)
word_turn f s x = turns_to f (and_then (script_word x) (word_stage s))

abbrev pub variable_turn : Found → Stage → List ℕ → Stage → Option (Found × Turn)
variable_turn f s x q = if takes_name s then Some (with_last x f, turn.Head q) else None

unfoldable pub name_turn : Found → Stage → List ℕ → Option (Found × Turn)
name_turn f s x = if wants_word s then word_turn f s x else variable_turn f s x AfterName

unfoldable pub keyword_turn : Found → Stage → Keyword → Option (Found × Turn)
keyword_turn f s Out = variable_turn f s stream AfterFinal
keyword_turn f s _ = None

unfoldable pub number_after : Found → Stage → ℕ → Option (Found × Turn)
number_after f s n = turns_at f (number_turn s n)

abbrev pub dot_stage : Stage → Option Stage
dot_stage (AfterAuthor a n) = Some (AfterDot a n)
dot_stage _ = None

abbrev pub close_square_stage : Stage → Option Stage
close_square_stage AfterNameOpen = Some AfterFinal
close_square_stage _ = None

abbrev pub last_ended : Found → Stage → Option (Found × Stage)
last_ended f s = Some (with_last_ended f, s)

abbrev pub comma_after : Found → Stage → Option (Found × Stage)
comma_after f AfterName = last_ended f AfterComma
comma_after f AfterFinal = last_ended f AfterComma
comma_after f _ = None

abbrev pub close_after : Found → Stage → Option (Found × Stage)
close_after f AfterOpen = Some (f, AtEnd plain.Finals)
close_after f AfterName = last_ended f (AtEnd plain.Finals)
close_after f AfterFinal = last_ended f (AtEnd plain.Finals)
close_after f _ = None

abbrev pub at_array : Option Found → Option (Found × Stage)
at_array None = None
at_array (Some f) = Some (f, AfterNameOpen)

abbrev pub square_opened : Found → Stage → Option (Found × Stage)
square_opened f AfterName = at_array (with_array f)
square_opened f _ = None

abbrev pub opened : Found → Stage → Option (Found × Stage)
opened f AtNames = Some (without_names f, AfterOpen)
opened f _ = None

abbrev pub ended : Found → Stage → Option (Found × Stage)
ended f (AtEnd p) = Some (with_plain p f, AtCommand)
ended f _ = None

unfoldable pub sign_after : Found → Sign → Stage → Option (Found × Stage)
sign_after f Dot s = found_at f (dot_stage s)
sign_after f Comma s = comma_after f s
sign_after f Open s = opened f s
sign_after f Close s = close_after f s
sign_after f OpenSquare s = square_opened f s
sign_after f CloseSquare s = found_at f (close_square_stage s)
sign_after f Semicolon s = ended f s
sign_after f _ s = None

abbrev pub or_lost : Option State → Option State
or_lost None = Some lost
or_lost (Some s) = Some s

abbrev pub name_next : Bool → Option State → Option State
name_next true o = or_lost o
name_next false o = o

abbrev pub content_goes : Found → Holder → Option ContentState → Option State
content_goes f h None = None
content_goes f h (Some (Ended c)) = Some (head (with_command (filled h c) f) AtCommand)
content_goes f h (Some c) = Some (inside f h c)

abbrev pub head_next : Found → Stage → Token → Option State
head_next f s (Word k) = at_turn (keyword_turn f s k)
head_next f s (Name x) = name_next (wants_word s) (at_turn (name_turn f s x))
head_next f s (Number n) = at_turn (number_after f s n)
head_next f s (Mark sign) = at_head (sign_after f sign s)

unfoldable pub next : State → Token → Option State
next (head f s) t = head_next f s t
next (inside f h c) t = content_goes f h (content_next c t)
next lost t = None

abbrev pub start : State
start = head nothing_found AtCommand

abbrev pub ends_script : Stage → Bool
ends_script AtCommand = true
ends_script _ = false

abbrev pub is_end : State → Bool
is_end (head f s) = ends_script s
is_end (inside f h c) = false
is_end lost = false

abbrev pub commands_of : State → List Command
commands_of (head f s) = f.commands
commands_of (inside f h c) = f.commands
commands_of lost = []
