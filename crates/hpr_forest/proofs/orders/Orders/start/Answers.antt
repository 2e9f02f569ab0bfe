use Rattle.hpr_forest.proofs.Starts.{blocks_open, starts}
use Rattle.hpr_forest.proofs.orders.Orders.start.Goals as goal

pub first_order-more-requires-clause-choices : goal.first_order-more-requires-clause-choices
first_order-more-requires-clause-choices c = blocks_open c.args.blocks

pub returns : goal.returns
returns c = record { all = starts c.args.blocks c.in_ok-placed.placed.items c.first_order-more.new.placed.items c.first_order-more.result c.in_ok-placed.ensures.items c.first_order-more.ensures.whole c.first_order-more.ensures.same c.first_order-more.ensures.dead }
