use Rattle.std.proofs.Common.{rules}
use Rattle.hpr_syntax.proofs.shape.+names_wrong.Goals as goal

pub returns-in-Var : goal.returns-in-Var
returns-in-Var t c = search rules
