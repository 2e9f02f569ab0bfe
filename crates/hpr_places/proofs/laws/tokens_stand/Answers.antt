use Rattle.hpr_places.proofs.Stand.{tokens_stand}
use Rattle.hpr_places.proofs.laws.tokens_stand.Goals as goal

pub returns : goal.returns
returns c = tokens_stand
