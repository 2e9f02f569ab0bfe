use Rattle.hpr_data.proofs.DecidedLemmas.{found_is_decided}
use Rattle.hpr_data.proofs.laws.found_is_decided.Goals as goal

pub returns : goal.returns
returns c = found_is_decided
