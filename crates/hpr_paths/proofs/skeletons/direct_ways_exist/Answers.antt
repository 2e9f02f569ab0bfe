use Rattle.hpr_paths.proofs.Programs.{way_exists}
use Rattle.hpr_paths.proofs.skeletons.direct_ways_exist.Goals as goal

pub returns : goal.returns
returns f = λ t x d u marks prog defines path left whole. way_exists t prog d u marks x defines path left whole
