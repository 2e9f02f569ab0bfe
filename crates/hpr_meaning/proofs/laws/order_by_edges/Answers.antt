use Rattle.hpr_meaning.proofs.Own.{ordered}
use Rattle.hpr_meaning.proofs.laws.order_by_edges.Goals as goal

pub returns : goal.returns
returns c = λ p s n prog. ordered p s n prog
