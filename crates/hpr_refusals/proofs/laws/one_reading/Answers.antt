use Rattle.hpr_refusals.proofs.Once.{one_reading}
use Rattle.hpr_refusals.proofs.laws.one_reading.Goals as goal

pub returns : goal.returns
returns c = one_reading
