use Rattle.hpr_paths.proofs.Nested.{nest_of_number, number_of_nest}
use Rattle.hpr_paths.proofs.laws.nests_by_number.Goals as goal

pub returns-clause-sound : goal.returns-clause-sound
returns-clause-sound c = nest_of_number

pub returns-clause-complete : goal.returns-clause-complete
returns-clause-complete c = number_of_nest
