use Rattle.hpr_forest.proofs.Starts.{blocks_open}
use Rattle.hpr_forest.proofs.orders.Orders.next_one.Goals as goal

pub next_order-self-inside-requires-clause-choices : goal.next_order-self-inside-requires-clause-choices
next_order-self-inside-requires-clause-choices c = blocks_open c.self.inside.blocks
