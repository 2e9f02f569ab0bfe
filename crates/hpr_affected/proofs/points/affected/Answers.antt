use Rattle.std.proofs.Common.{rules}
use Rattle.hpr_affected.proofs.points.affected.Goals as goal

pub returns : goal.returns
returns c = search rules
