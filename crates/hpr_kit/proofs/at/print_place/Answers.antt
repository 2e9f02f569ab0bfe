use Rattle.std.proofs.Common.{rules, append_assoc}
use Rattle.hpr_kit.proofs.at.print_place.Goals as goal

pub returns : goal.returns
returns c = search (rules, append_assoc)
