use Rattle.std.proofs.Common.{◌≡◌, ◌+◌, ℕ, IfOk, ap, refl, subst, ◌∙◌}
use Rattle.hpr_syntax.specs.Run.{Outcome, run}
use Rattle.hpr_run.specs.Outcomes.{outcome_of}
use Rattle.hpr_decisions.specs.TrialFiles.{IsTrialText, steps_together}
use Rattle.hpr_decisions.proofs.TrialLemmas.{single_finals}
use Rattle.hpr_app.proofs.trial.ended_text.Goals as goal

pub trial_text-requires-clause-merged : goal.trial_text-requires-clause-merged
trial_text-requires-clause-merged c =
    let together = c.steps_of.result + c.steps_of-2.result + c.steps_of-3.result in
    single_finals c.args.merged.now c.args.state.now together (outcome_of c.in_ok-all.all) c.in_ok-all.ensures

pub returns : goal.returns
returns c =
    let base = outcome_of c.args.base.now in
    let a = outcome_of c.args.a.now in
    let b = outcome_of c.args.b.now in
    let same : c.steps_of.result + c.steps_of-2.result + c.steps_of-3.result ≡ steps_together base a b = rw (c.steps_of.ensures, c.steps_of-2.ensures, c.steps_of-3.ensures) refl in
    let is = c.in_ok-all.ensures ∙ ap (λ (n : ℕ). run c.args.merged.now c.args.state.now n) same in
    subst (λ (x : Outcome). IfOk c.trial_text.result (λ text. IsTrialText base a b x text.items)) is c.trial_text.ensures
