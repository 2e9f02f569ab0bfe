-- What reading the state words comes to.
--
-- ReadsState words result        == the state that the words tell; or the first word that is refused is named
--                                   in the message; or memory ran out
-- TakesWord old word new result  == a word behind those that tell the state `old`: the state `new` lists one
--                                   name more, with the word's number; or the word is refused with its
--                                   message; or memory ran out
use Rattle.std.specs.Prelude.{◌≡◌, ℤ, List, Result, Ok, Err, Some, false, string_bytes}
use Rattle.std.specs.FinMap.{contains_key, insert}
use Rattle.hpr_syntax.specs.declared.value.Value.TheVariants.{Number}
use Rattle.hpr_syntax.specs.Values.{Values}
use Rattle.hpr_words.specs.Request.{Text}
use Rattle.hpr_inputs.specs.States.{RefusedWord, assignment, refusal, refused_word_text, states_of}
use Rattle.hpr_inputs.specs.declared.answer.Stop.{Stop}
use Rattle.hpr_inputs.specs.declared.answer.Stop.TheVariants as stop
use Rattle.hpr_inputs.specs.declared.states.WordRefusal.{WordRefusal}

abbrev pub RefusesState : List Text → Stop → Type 0
RefusesState words (stop.Refused message) = (r : RefusedWord) × (states_of words ≡ Err r) × (string_bytes message ≡ refused_word_text r)
RefusesState words (stop.ReadFault message) = ⊥
RefusesState words stop.Memory = Unit {0}

abbrev pub ReadsState : List Text → Result Values Stop → Type 0
ReadsState words (Ok state) = states_of words ≡ Ok state
ReadsState words (Err s) = RefusesState words s

abbrev pub RefusesWord : Values → Text → Stop → Type 0
RefusesWord state word (stop.Refused message) =
    (why : WordRefusal) × (refusal state word ≡ Some why) × (string_bytes message ≡ refused_word_text (record { word = word; why = why }))
RefusesWord state word (stop.ReadFault message) = ⊥
RefusesWord state word stop.Memory = Unit {0}

abbrev pub TakesWord : Values → Text → Values → Result (Unit {0}) Stop → Type 0
TakesWord old word new (Ok u) =
    (given : Text × ℤ) × (assignment word ≡ Some given) × (contains_key old given.0 ≡ false) × (new ≡ insert old given.0 (Number given.1))
TakesWord old word new (Err s) = RefusesWord old word s
