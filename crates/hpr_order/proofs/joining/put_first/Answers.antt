use Rattle.std.proofs.Common.{arith}
use Rattle.hpr_order.proofs.Joins.{first_put}
use Rattle.hpr_order.proofs.joining.put_first.Goals as goal

pub returns : goal.returns
returns c = first_put _ _ _ _ _ (omega arith) c.index_mut-run.ensures.value c.in_ok-push.ensures.items
