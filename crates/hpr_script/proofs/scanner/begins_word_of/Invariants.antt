use Rattle.std.proofs.Common.{◌≡◌, drop}
use Rattle.std.specs.List.{list_any}
use Rattle.hpr_script.specs.Reading.{begins_word}
use Rattle.hpr_script.proofs.scanner.begins_word_of.Given as goal

abbrev pub invariant-loop-script_word : goal.invariant-loop-script_word
invariant-loop-script_word l =
    list_any (begins_word l.stage l.word) l.script_words ≡ list_any (begins_word l.stage l.word) (drop l.script_word-index l.script_words)
