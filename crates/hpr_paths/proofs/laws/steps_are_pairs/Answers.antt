use Rattle.hpr_paths.proofs.Whole.{pair_of_step}
use Rattle.hpr_paths.proofs.Marks.{step_from}
use Rattle.hpr_paths.proofs.laws.steps_are_pairs.Goals as goal

pub returns-clause-sound : goal.returns-clause-sound
returns-clause-sound c = pair_of_step

pub returns-clause-complete : goal.returns-clause-complete
returns-clause-complete c = step_from
