use Rattle.hpr_decisions.proofs.Total.{has_decision}
use Rattle.hpr_decisions.proofs.laws.has_decision.Goals as goal

pub returns : goal.returns
returns c = has_decision
