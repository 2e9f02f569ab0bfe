-- What is decided of a run, behind a state that the words tell.
use Rattle.std.proofs.Common.{◌≡◌, ℕ, Bool, List, ap, refl, Option, Ok, Err, Result, IsOk, is_ok}
use Rattle.hpr_io.specs.Files.{Files}
use Rattle.hpr_syntax.specs.Tree.{Tree}
use Rattle.hpr_syntax.specs.Values.{Values}
use Rattle.hpr_words.specs.Request.{Text}
use Rattle.hpr_inputs.specs.Answer.{Decides, Merges}
use Rattle.hpr_inputs.specs.Decision.{Decision}
use Rattle.hpr_inputs.specs.Files.{OnFile}
use Rattle.hpr_inputs.specs.Reads.{IfTold}
use Rattle.hpr_inputs.specs.ReadsFile.{Fails}
use Rattle.hpr_inputs.specs.States.{states_of}
use Rattle.hpr_decisions.specs.RunFile.{Ran, RunOutcome}
use Rattle.hpr_inputs.specs.declared.answer.Report.{Report}
use Rattle.hpr_inputs.specs.declared.answer.Stop.{Stop}
use Rattle.hpr_inputs.proofs.ReadLemmas.{FileOf, Reaches, file_fails, past_last_file}
use Rattle.hpr_inputs.proofs.VersionLemmas.{decides_other, on_state}

module _ (files : Option Files) (file : Text) (words : List Text) (steps : ℕ) (trace : Bool) (state : Values) (is : states_of words ≡ Ok state) (before now : ℕ) where
  abbrev Next : Tree → Decision → Type 0
  Next p r = Ran p state steps trace r

  abbrev Read : List ℕ → Type 0
  Read name = name ≡ file

  abbrev pub IsRun : Result Report Stop → Type 0
  IsRun result = Decides (λ r. IfTold files (λ fs. RunOutcome fs file words steps trace r)) (λ name. Read name × IsOk (states_of words)) before now result

  run_decides : (result : Result Report Stop) → Decides (Reaches files Read before now file (λ fs p r. Next p r)) Read before now result → IsRun result
  run_decides result h =
      decides_other (Reaches files Read before now file (λ fs p r. Next p r)) (λ r. IfTold files (λ fs. RunOutcome fs file words steps trace r)) Read
      (λ name. Read name × IsOk (states_of words))
      (λ r k fs t. on_state (states_of words) state is (λ st d. OnFile fs file (λ p. Ran p st steps trace d) d) r (k fs t))
      (λ name reads. (reads, ap is_ok is)) before now result h

  pub run_fails : (s : Stop) → Fails files file before now s → IsRun (Err s)
  run_fails s h = run_decides (Err s) (file_fails files Read before now file (λ fs p r. Next p r) s refl h)

  pub run_shown : (p : Tree) (result : Result Report Stop) → FileOf files file p → now ≡ before → Merges (Next p) result → IsRun result
  run_shown p result hp same h = run_decides result (past_last_file files Read before now file Next p result hp same h)
