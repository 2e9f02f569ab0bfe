use Rattle.std.proofs.Common.{rules}
use Rattle.hpr_split.proofs.numbers.has_serials.Goals as goal

pub returns : goal.returns
returns c = search rules
