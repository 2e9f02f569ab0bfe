-- What is decided of a trial.
use Rattle.std.proofs.Common.{◌≡◌, ℕ, List, ap, subst, Option, Ok, Result, IsOk, is_ok}
use Rattle.hpr_terms.specs.declared.limits.TheConstants.{DEFAULT_TRIES}
use Rattle.hpr_io.specs.Files.{Files}
use Rattle.hpr_syntax.specs.Run.{Outcome, run}
use Rattle.hpr_syntax.specs.Tree.{Tree}
use Rattle.hpr_syntax.specs.Values.{Values}
use Rattle.hpr_graph.specs.Answer.{Answer, interference, printed, no_program, spent, IsAnswer}
use Rattle.hpr_words.specs.Request.{Text}
use Rattle.hpr_inputs.specs.Answer.{Decides, Merges}
use Rattle.hpr_inputs.specs.Decision.{Decision}
use Rattle.hpr_inputs.specs.Reads.{IfTold}
use Rattle.hpr_inputs.specs.Files.{OnFiles}
use Rattle.hpr_decisions.specs.Integrate.{report}
use Rattle.hpr_inputs.specs.States.{states_of}
use Rattle.hpr_decisions.specs.TrialFiles.{IsTried, IsTrialOf, ShowsTrial, Tried, TrialOutcome, steps_together}
use Rattle.hpr_inputs.specs.declared.answer.Report.{Report}
use Rattle.hpr_inputs.specs.declared.answer.Stop.{Stop}
use Rattle.hpr_app.proofs.IntegrateLemmas.{IsUnprinted}
use Rattle.hpr_inputs.proofs.VersionLemmas.{Reached, Reads, decides_other, on_state}

-- behind a state that the words tell
module _ (files : Option Files) (base a b : Text) (words : List Text) (steps : ℕ) (state : Values) (is : states_of words ≡ Ok state) where
  abbrev pub Next : Tree → Tree → Tree → Decision → Type 0
  Next p q s d = Tried base p a q b s state steps d

  known_state : IsOk (states_of words)
  known_state = ap is_ok is

  pub trial_decides : (before now : ℕ) (result : Result Report Stop) → Decides (Reached files base a b Next) (Reads files base a b) before now result
      → Decides (λ r. IfTold files (λ fs. TrialOutcome fs base a b words steps r)) (λ file. Reads files base a b file × IsOk (states_of words)) before now result
  trial_decides before now result h =
      decides_other (Reached files base a b Next) (λ r. IfTold files (λ fs. TrialOutcome fs base a b words steps r)) (Reads files base a b) (λ file. Reads files base a b file × IsOk (states_of words))
      (λ r k fs t. on_state (states_of words) state is (λ st d. OnFiles fs base a b (λ p q s. Tried base p a q b s st steps d) d) r (k fs t))
      (λ file reads. (reads, known_state)) before now result h

module _ (p q s : Tree) (state : Values) (steps : ℕ) where
  -- what reports an answer without a program is decided of a trial
  pub unprinted_tried : (x : Answer) (d : Decision) → IsUnprinted x → IsAnswer p q s DEFAULT_TRIES x → d ≡ report DEFAULT_TRIES x → IsTried p q s state steps d
  unprinted_tried (interference cs) d none answer is = (interference cs, answer, is)
  unprinted_tried (printed m) d none answer is = absurd none
  unprinted_tried (no_program n) d none answer is = (no_program n, answer, is)
  unprinted_tried spent d none answer is = (spent, answer, is)

-- what the runs show is so of runs that are equal to them
pub of_runs : (p q s m : Tree) (state : Values) (n : ℕ) (o o1 o2 : Outcome) (result : Result Report Stop) → o ≡ run p state n → o1 ≡ run q state n → o2 ≡ run s state n
    → Merges (λ r. ShowsTrial o o1 o2 (run m state (steps_together o o1 o2)) r) result → Merges (λ r. IsTrialOf p q s m state n r) result
of_runs p q s m state n o o1 o2 result e e1 e2 h =
    let shows : Outcome → Outcome → Outcome → Type 0 = λ x y z. Merges (λ r. ShowsTrial x y z (run m state (steps_together x y z)) r) result in
    subst (λ (x : Outcome). shows x (run q state n) (run s state n)) e (subst (λ (y : Outcome). shows o y (run s state n)) e1 (subst (λ (z : Outcome). shows o o1 z) e2 h))
