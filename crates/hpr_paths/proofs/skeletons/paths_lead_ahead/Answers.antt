use Rattle.hpr_paths.proofs.Programs.{path_ahead}
use Rattle.hpr_paths.proofs.skeletons.paths_lead_ahead.Goals as goal

pub returns : goal.returns
returns f = λ t d u marks prog path avoids. path_ahead t prog d u marks path avoids
