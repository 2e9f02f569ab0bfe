use Rattle.std.proofs.Common.{rules}
use Rattle.hpr_split.proofs.parts.is_chosen.Goals as goal

pub returns-in-Part : goal.returns-in-Part
returns-in-Part c = search rules
