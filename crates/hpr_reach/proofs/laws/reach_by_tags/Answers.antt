use Rattle.hpr_reach.proofs.ByTags.{reach_tags}
use Rattle.hpr_reach.proofs.laws.reach_by_tags.Goals as goal

pub returns : goal.returns
returns c = λ t x p q cut a z loops prog na nz nest. reach_tags t prog x p q cut a z loops na nz nest
