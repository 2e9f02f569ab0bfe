use Rattle.std.proofs.Common.{rules}
use Rattle.hpr_affected.proofs.differing.is_direct.Goals as goal

pub returns-in-None : goal.returns-in-None
returns-in-None c = search rules
