use Rattle.std.proofs.Common.{rules}
use Rattle.hpr_run.proofs.interpreter.act_store.Goals as goal

pub returns-in_err-number-clause-given : goal.returns-in_err-number-clause-given
returns-in_err-number-clause-given c = search rules
