use Rattle.hpr_reach.proofs.ByTags.{live_tags}
use Rattle.hpr_reach.proofs.laws.live_by_tags.Goals as goal

pub returns : goal.returns
returns c = λ t x prog. live_tags t prog x
