use Rattle.hpr_build.proofs.PartedLaws.{before_by_tags}
use Rattle.hpr_build.proofs.laws.order_by_tags.Goals as goal

pub returns : goal.returns
returns c = λ t p q v w prog nv nw. before_by_tags t prog p q v w nv nw
