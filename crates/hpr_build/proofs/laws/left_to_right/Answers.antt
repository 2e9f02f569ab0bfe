use Rattle.hpr_build.proofs.BridgeLeft.{independent_to_right, order_to_right}
use Rattle.hpr_build.proofs.laws.left_to_right.Goals as goal

pub returns-clause-independent : goal.returns-clause-independent
returns-clause-independent f = λ t e x v w c d prog h is from to. independent_to_right t v w c d prog e x h is from to

pub returns-clause-order : goal.returns-clause-order
returns-clause-order f = λ t e u v w c d prog h is from to. order_to_right t v w c d e u h is from to
