use Rattle.std.proofs.Common.{rules}
use Rattle.hpr_run.proofs.interpreter.take_step.Goals as goal

pub returns-in-Err-clause-stepped : goal.returns-in-Err-clause-stepped
returns-in-Err-clause-stepped g c = search rules
