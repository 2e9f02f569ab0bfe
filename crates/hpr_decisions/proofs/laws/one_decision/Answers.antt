use Rattle.hpr_decisions.proofs.Once.{one_decision}
use Rattle.hpr_decisions.proofs.laws.one_decision.Goals as goal

pub returns : goal.returns
returns c = one_decision
