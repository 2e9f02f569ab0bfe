use Rattle.hpr_meaning.proofs.Own.{timely}
use Rattle.hpr_meaning.proofs.laws.time.Goals as goal

pub returns : goal.returns
returns c = λ p s n prog. timely p s n prog
