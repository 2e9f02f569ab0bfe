use Rattle.std.proofs.Common.{rules}
use Rattle.hpr_closure.proofs.counts.counts_at.Goals as goal

pub returns-in-Order : goal.returns-in-Order
returns-in-Order c = search rules
