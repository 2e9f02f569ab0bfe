use Rattle.std.proofs.Common.{rules}
use Rattle.hpr_affected.proofs.lacking.is_known.Goals as goal

pub returns-in-Some : goal.returns-in-Some
returns-in-Some c = search rules
