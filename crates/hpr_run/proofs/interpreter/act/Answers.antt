use Rattle.std.proofs.Common.{rules}
use Rattle.hpr_run.proofs.interpreter.act.Goals as goal

pub returns-in_default-clause-given : goal.returns-in_default-clause-given
returns-in_default-clause-given c = search rules
