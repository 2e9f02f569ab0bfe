use Rattle.hpr_tagging.proofs.Labels.{tagged_stays}
use Rattle.hpr_tagging.proofs.laws.tagged_stays.Goals as goal

pub returns : goal.returns
returns c = tagged_stays
