use Rattle.hpr_script.proofs.Scripts.{one_script}
use Rattle.hpr_script.proofs.laws.one_script.Goals as goal

pub returns : goal.returns
returns c = one_script
