use Rattle.hpr_paths.proofs.Tags.{number_some, number_once}
use Rattle.hpr_paths.proofs.laws.numbers_of_points.Goals as goal

pub returns-clause-some : goal.returns-clause-some
returns-clause-some c = number_some

pub returns-clause-once : goal.returns-clause-once
returns-clause-once c = number_once
