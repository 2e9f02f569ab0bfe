use Rattle.std.proofs.Common.{rules}
use Rattle.hpr_run.proofs.values.index.Goals as goal

pub returns : goal.returns
returns c = search rules
