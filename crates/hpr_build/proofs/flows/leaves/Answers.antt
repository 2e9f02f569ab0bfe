use Rattle.std.proofs.Common.{rules}
use Rattle.hpr_build.proofs.flows.leaves.Goals as goal

pub returns-then-has : goal.returns-then-has
returns-then-has c = search rules
