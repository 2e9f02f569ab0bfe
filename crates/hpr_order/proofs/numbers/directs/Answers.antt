use Rattle.std.proofs.Common.{rules}
use Rattle.hpr_order.proofs.numbers.directs.Goals as goal

pub returns-in-Order : goal.returns-in-Order
returns-in-Order c = search rules
