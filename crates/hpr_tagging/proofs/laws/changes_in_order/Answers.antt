use Rattle.hpr_tagging.proofs.Orders.{changes_ordered}
use Rattle.hpr_tagging.proofs.laws.changes_in_order.Goals as goal

pub returns : goal.returns
returns c = changes_ordered
