use Rattle.std.proofs.Common.{◌≡◌, ◌++◌, drop}
use Rattle.hpr_reach.specs.OpenSteps.{targets}
use Rattle.hpr_reach.proofs.search.push_targets.Given as goal

abbrev pub invariant-loop-step : goal.invariant-loop-step
invariant-loop-step l = l.into.items ++ targets l.loops (drop l.step-index l.steps) ≡ l.fn.into.items ++ targets l.loops l.steps
