use Rattle.hpr_paths.proofs.Left.{left_by_number, number_left}
use Rattle.hpr_paths.proofs.laws.left_by_number.Goals as goal

pub returns-clause-sound : goal.returns-clause-sound
returns-clause-sound c = left_by_number

pub returns-clause-complete : goal.returns-clause-complete
returns-clause-complete c = number_left
