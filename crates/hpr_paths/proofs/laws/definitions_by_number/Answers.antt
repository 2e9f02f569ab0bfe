use Rattle.hpr_paths.proofs.Defines.{defines_of_number, number_of_defines}
use Rattle.hpr_paths.proofs.laws.definitions_by_number.Goals as goal

pub returns-clause-sound : goal.returns-clause-sound
returns-clause-sound c = defines_of_number

pub returns-clause-complete : goal.returns-clause-complete
returns-clause-complete c = number_of_defines
