use Rattle.std.proofs.Common.{◌≡◌, ◌++◌, drop}
use Rattle.hpr_slice.specs.Steps.{steps_into}
use Rattle.hpr_slice.proofs.steps.push_steps.Given as goal

abbrev pub invariant-loop-link : goal.invariant-loop-link
invariant-loop-link l = l.into.items ++ steps_into l.to (drop l.link-index l.links) ≡ l.fn.into.items ++ steps_into l.to l.links
