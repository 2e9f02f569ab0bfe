use Rattle.hpr_edit.proofs.Outside.{others_stay}
use Rattle.hpr_edit.proofs.laws.others_stay.Goals as goal

pub returns : goal.returns
returns c = others_stay
