use Rattle.std.proofs.Common.{rules}
use Rattle.hpr_edit.proofs.Lists.{copied_some}
use Rattle.hpr_edit.proofs.places.stands_in.Goals as goal

pub returns-in-Some : goal.returns-in-Some
returns-in-Some c = search (rules, copied_some)
