-- Each file is refused, or spells a program in the untagged form or a script.
use Rattle.std.proofs.Common.{ℕ, ◌<◌, ◌^◌, List}
use Rattle.hpr_io.specs.Files.{Files, bytes_of}
use Rattle.hpr_syntax.specs.Grammar.{untagged}
use Rattle.hpr_syntax.specs.Shape.{IsProgram}
use Rattle.hpr_syntax.specs.Tree.{Tree}
use Rattle.hpr_text.proofs.SpelledProper.{untagged_well}
use Rattle.hpr_edit.specs.declared.command.Command.{Command}
use Rattle.hpr_refusals.specs.Refusals.{IsFileIn, IsRefusedIn, IsRefusedScript, IsScriptOf}
use Rattle.hpr_refusals.proofs.SomeReading.{reads_file, reads_script}
use Rattle.hpr_inputs.specs.Decision.{Decision}
use Rattle.hpr_inputs.proofs.SomeDecision.{HasOne, on_read}
use Rattle.hpr_decisions.specs.EditFiles.{OnScript, OnUntagged}

module _ (fs : Files) where
  pub on_untagged : (file : List ℕ) (author : ℕ) (next : Tree → Decision → Type 0) → author < 2 ^ 32 → ((p : Tree) → IsProgram p → HasOne (next p))
      → HasOne (λ r. OnUntagged fs file author (λ p. next p r) r)
  on_untagged file author next low decides =
      let bytes = bytes_of fs file in
      let form = untagged author in
      on_read (IsRefusedIn form file bytes) (IsFileIn form bytes) next (reads_file form file bytes (untagged_well author bytes low)) (λ p is. decides p is.program)

  pub on_script : (file : List ℕ) (next : List Command → Decision → Type 0) → ((cs : List Command) → HasOne (next cs)) → HasOne (λ r. OnScript fs file (λ cs. next cs r) r)
  on_script file next decides =
      let bytes = bytes_of fs file in
      on_read (IsRefusedScript file bytes) (IsScriptOf bytes) next (reads_script file bytes) (λ cs is. decides cs)
