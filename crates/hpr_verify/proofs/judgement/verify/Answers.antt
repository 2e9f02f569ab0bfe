use Rattle.std.proofs.Common.{ℕ, [], ◌∷◌, sym, subst}
use Rattle.std.proofs.lemmas.Result.{IfOk-weaker}
use Rattle.hpr_engine.specs.Answers.{number_of}
use Rattle.hpr_engine.specs.Limit.{IsFirstTooLargeOf}
use Rattle.hpr_verify.specs.Refusals.{IsFirstOf}
use Rattle.hpr_verify.specs.Verdict.{IsJudged, IsVerdict}
use Rattle.hpr_verify.proofs.Verdicts.{first_of_more, first_verdict, free_verdict, keeps_when, same_exactly}
use Rattle.hpr_verify.proofs.judgement.verify.Goals as goal

pub returns-in-Ok-clause-verdict : goal.returns-in-Ok-clause-verdict
returns-in-Ok-clause-verdict c =
    let base = c.args.base.now in
    let a = c.args.a.now in
    let b = c.args.b.now in
    let offered = c.args.offered.now in
    IfOk-weaker c.judged.result (IsJudged base a b offered) (IsVerdict base a b offered) (free_verdict base a b offered c.in-Ok.ensures.no_conflict) c.judged.ensures.judged

pub returns-in-Ok-clause-same : goal.returns-in-Ok-clause-same
returns-in-Ok-clause-same c =
    let base = c.args.base.now in
    let a = c.args.a.now in
    let b = c.args.b.now in
    let offered = c.args.offered.now in
    IfOk-weaker c.judged.result (IsVerdict base a b offered) _ (same_exactly base a b offered) (returns-in-Ok-clause-verdict c)

pub returns-in-Ok-clause-keeps : goal.returns-in-Ok-clause-keeps
returns-in-Ok-clause-keeps c =
    let are = c.judged.ensures in
    keeps_when c.args.base.now c.args.a.now c.args.b.now c.args.offered.now c.in-Ok.ensures.no_conflict c.judged.result are.judged are.base are.a are.b are.offered

pub returns-in-Err-Interference-clause-verdict : goal.returns-in-Err-Interference-clause-verdict
returns-in-Err-Interference-clause-verdict c =
    let base = c.args.base.now in
    let a = c.args.a.now in
    let b = c.args.b.now in
    let offered = c.args.offered.now in
    let cs = c.in-Err-Interference.conflicts.items in
    IfOk-weaker c.interfering.result (IsFirstOf cs) (IsVerdict base a b offered)
    (λ v first. first_verdict base a b offered cs v (rw c.in-Err-Interference.field-0-is at c.in-Err-Interference.ensures.conflicts) first) c.interfering.ensures.first

pub returns-in-Err-Interference-clause-same : goal.returns-in-Err-Interference-clause-same
returns-in-Err-Interference-clause-same c =
    let base = c.args.base.now in
    let a = c.args.a.now in
    let b = c.args.b.now in
    let offered = c.args.offered.now in
    IfOk-weaker c.interfering.result (IsVerdict base a b offered) _ (same_exactly base a b offered) (returns-in-Err-Interference-clause-verdict c)

pub returns-in-Err-TooManyEdges-clause-too_many : goal.returns-in-Err-TooManyEdges-clause-too_many
returns-in-Err-TooManyEdges-clause-too_many c =
    let base = c.args.base.now in
    let a = c.args.a.now in
    let b = c.args.b.now in
    let offered = c.args.offered.now in
    subst (λ (n : ℕ). IsFirstTooLargeOf (base ∷ a ∷ b ∷ offered ∷ []) n) (sym c.number_of.ensures)
    (first_of_more (base ∷ a ∷ b ∷ []) (offered ∷ []) (number_of c.in-Err-TooManyEdges.which) (rw c.in-Err-TooManyEdges.field-0-is at c.in-Err-TooManyEdges.ensures.too_many))
