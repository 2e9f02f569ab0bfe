use Rattle.std.proofs.Common.{rules}
use Rattle.hpr_run.proofs.interpreter.walk_write.Goals as goal

pub returns-clause-did : goal.returns-clause-did
returns-clause-did g c = search rules
