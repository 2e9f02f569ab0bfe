use Rattle.std.proofs.Common.{rules}
use Rattle.hpr_paths.proofs.build.push_exit.Goals as goal

pub returns : goal.returns
returns c = search rules
