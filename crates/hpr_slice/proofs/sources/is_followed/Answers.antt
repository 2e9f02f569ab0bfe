use Rattle.std.proofs.Common.{rules}
use Rattle.hpr_slice.proofs.sources.is_followed.Goals as goal

pub returns-in-Order : goal.returns-in-Order
returns-in-Order c = search rules
