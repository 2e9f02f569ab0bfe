use Rattle.hpr_meaning.proofs.Origins.{origin_of}
use Rattle.hpr_meaning.proofs.laws.origins_are_definers.Goals as goal

pub returns : goal.returns
returns c = origin_of
