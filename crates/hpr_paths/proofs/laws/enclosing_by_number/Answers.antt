use Rattle.hpr_paths.proofs.Encloses.{encloses_by_number, number_encloses}
use Rattle.hpr_paths.proofs.laws.enclosing_by_number.Goals as goal

pub returns-clause-sound : goal.returns-clause-sound
returns-clause-sound c = encloses_by_number

pub returns-clause-complete : goal.returns-clause-complete
returns-clause-complete c = number_encloses
