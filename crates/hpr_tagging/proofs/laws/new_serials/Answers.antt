use Rattle.hpr_tagging.proofs.Labels.{new_serials}
use Rattle.hpr_tagging.proofs.laws.new_serials.Goals as goal

pub returns : goal.returns
returns c = new_serials
