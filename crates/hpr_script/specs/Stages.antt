-- Where the tokens of a command lead, up to its content or its `;`.
--
-- is_count n              == n can be an author, or a place in a block
-- is_serial n             == n can be a serial
-- tagged asked t          == what follows the tag t
-- at_place placed p       == what follows the place p
-- command_stage k         == what follows the word k at the start of a command, if it can stand there
-- block_stage placed t k  == what follows the word k behind the tag of a place, if it can stand there
-- word_stage stage k      == where the word k of scripts leads, if it can stand there
-- wants_word stage        == a word of scripts stands there, and no other name does
-- takes_name stage        == any variable can stand there
-- number_turn stage n     == where the number n leads, if it can stand there
use Rattle.std.specs.Prelude.{ℕ, ◌^◌, Bool, true, false, nat_lt, nat_le, ◌&&◌, if◌then◌else◌, Option, Some, None}
use Rattle.hpr_terms.specs.declared.tag.Tag.{Tag}
use Rattle.hpr_edit.specs.declared.command.Place.{Place}
use Rattle.hpr_script.specs.declared.stage.Placed.{Placed}
use Rattle.hpr_script.specs.declared.stage.Placed.TheVariants as placed
use Rattle.hpr_script.specs.declared.stage.Asked.{Asked}
use Rattle.hpr_script.specs.declared.stage.Asked.TheVariants as asked
use Rattle.hpr_script.specs.declared.stage.Holder.TheVariants as holder
use Rattle.hpr_script.specs.declared.stage.Plain.TheVariants as plain
use Rattle.hpr_script.specs.declared.stage.Stage.{Stage}
use Rattle.hpr_script.specs.declared.stage.Stage.TheVariants.{AtCommand, AtTag, AfterAuthor, AfterDot, AtPlace, AfterAt, AfterParent, AtCount, AtNames, AfterOpen, AfterComma, AtEnd}
use Rattle.hpr_script.specs.declared.stage.Turn.{Turn}
use Rattle.hpr_script.specs.declared.stage.Turn.TheVariants.{Head, Content}
use Rattle.hpr_script.specs.declared.word.ScriptWord.{ScriptWord}
use Rattle.hpr_script.specs.declared.word.ScriptWord.TheVariants.{Insert, Delete, Move, Set, Wrap, Unwrap, Finals, At, Top, True, False}

abbrev pub is_count : ℕ → Bool
is_count n = nat_lt n (2 ^ 32)

abbrev pub is_serial : ℕ → Bool
is_serial n = nat_le 1 n && nat_lt n (2 ^ 32)

abbrev pub tagged : Asked → Tag → Turn
tagged asked.Delete t = Head (AtEnd (plain.Delete t))
tagged asked.Move t = Head (AtPlace (placed.Part t))
tagged asked.Set t = Content (holder.Set t)
tagged asked.Wrap t = Content (holder.Wrap t)
tagged asked.Unwrap t = Head (AtEnd (plain.Unwrap t))
tagged (asked.Parent p) t = Head (AfterParent p t)

abbrev pub at_place : Placed → Place → Turn
at_place placed.New p = Content (holder.Insert p)
at_place (placed.Part t) p = Head (AtEnd (plain.Move t p))

abbrev pub command_stage : ScriptWord → Option Stage
command_stage Insert = Some (AtPlace placed.New)
command_stage Delete = Some (AtTag asked.Delete)
command_stage Move = Some (AtTag asked.Move)
command_stage Set = Some (AtTag asked.Set)
command_stage Wrap = Some (AtTag asked.Wrap)
command_stage Unwrap = Some (AtTag asked.Unwrap)
command_stage Finals = Some AtNames
command_stage _ = None

abbrev pub block_stage : Placed → Tag → ScriptWord → Option Stage
block_stage p t True = Some (AtCount p (Some (t, true)))
block_stage p t False = Some (AtCount p (Some (t, false)))
block_stage p t _ = None

unfoldable pub word_stage : Stage → ScriptWord → Option Stage
word_stage AtCommand k = command_stage k
word_stage (AtPlace p) At = Some (AfterAt p)
word_stage (AfterAt p) Top = Some (AtCount p None)
word_stage (AfterParent p t) k = block_stage p t k
word_stage _ _ = None

unfoldable pub wants_word : Stage → Bool
wants_word AtCommand = true
wants_word (AtPlace p) = true
wants_word (AfterAt p) = true
wants_word (AfterParent p t) = true
wants_word _ = false

unfoldable pub takes_name : Stage → Bool
takes_name AfterOpen = true
takes_name AfterComma = true
takes_name _ = false

unfoldable pub number_turn : Stage → ℕ → Option Turn
number_turn (AtTag a) n = if is_count n then Some (Head (AfterAuthor a n)) else None
number_turn (AfterAt p) n = if is_count n then Some (Head (AfterAuthor (asked.Parent p) n)) else None
number_turn (AfterDot a m) n = if is_serial n then Some (tagged a (record { author = m; serial = n })) else None
number_turn (AtCount p parent) n = if is_count n then Some (at_place p (record { parent = parent; at = n })) else None
number_turn _ n = None
