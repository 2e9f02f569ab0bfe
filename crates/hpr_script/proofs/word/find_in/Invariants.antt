use Rattle.std.proofs.Common.{◌≡◌, drop}
use Rattle.std.specs.List.{find}
use Rattle.std.specs.Str.{bytes_eq}
use Rattle.hpr_script.specs.ScriptWords.{script_text}
use Rattle.hpr_script.proofs.word.find_in.Given as goal

abbrev pub invariant-loop-word : goal.invariant-loop-word
invariant-loop-word l =
    find (λ k. bytes_eq (script_text k) l.text) l.words ≡ find (λ k. bytes_eq (script_text k) l.text) (drop l.word-index l.words)
