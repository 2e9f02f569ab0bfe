use Rattle.std.proofs.Common.{rules}
use Rattle.hpr_expressions.proofs.expression.Context.sign_next.Goals as goal

pub returns-in-Minus : goal.returns-in-Minus
returns-in-Minus c = search rules
