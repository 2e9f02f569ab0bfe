use Rattle.hpr_data.proofs.FoundLemmas.{decided_is_found}
use Rattle.hpr_data.proofs.laws.decided_is_found.Goals as goal

pub returns : goal.returns
returns c = decided_is_found
