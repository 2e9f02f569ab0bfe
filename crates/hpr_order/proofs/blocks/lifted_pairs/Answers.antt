use Rattle.std.proofs.Common.{length}
use Rattle.hpr_order.proofs.ItemRows.{none_latest}
use Rattle.hpr_order.proofs.blocks.lifted_pairs.Goals as goal

pub push_pairs-requires-clause-latest : goal.push_pairs-requires-clause-latest
push_pairs-requires-clause-latest c = none_latest c.in_ok-asked.asked c.in_ok-latest.latest.items (length c.args.items.now) c.in_ok-latest.ensures c.in_ok-asked.ensures.count

pub push_pairs-requires-clause-none : goal.push_pairs-requires-clause-none
push_pairs-requires-clause-none c = c.in_ok-asked.ensures.blank
