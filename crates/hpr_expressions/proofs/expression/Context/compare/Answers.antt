use Rattle.std.proofs.Common.{rules}
use Rattle.hpr_expressions.proofs.expression.Context.compare.Goals as goal

pub returns : goal.returns
returns c = search rules
