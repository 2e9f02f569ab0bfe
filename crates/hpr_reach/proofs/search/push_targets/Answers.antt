use Rattle.std.proofs.Common.{◌++◌, ◌∙◌, List, sym, ap}
use Rattle.std.proofs.lemmas.List.{append-nil, drop_all}
use Rattle.hpr_paths.specs.declared.spot.Step.{Step}
use Rattle.hpr_reach.specs.OpenSteps.{targets}
use Rattle.hpr_reach.proofs.search.push_targets.Goals as goal

pub returns : goal.returns
returns c =
    sym (append-nil c.loop-step.into.items)
    ∙ sym (ap (λ (xs : List Step). c.loop-step.into.items ++ targets c.args.loops.now xs) (drop_all c.loop-step.step-index c.args.steps.now c.loop-step-test.false))
    ∙ c.loop-step.invariant
