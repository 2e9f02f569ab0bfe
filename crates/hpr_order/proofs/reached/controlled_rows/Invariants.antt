use Rattle.hpr_order.proofs.Rows.{AreControlledTo}
use Rattle.hpr_order.proofs.reached.controlled_rows.Given as goal

abbrev pub invariant-loop-at : goal.invariant-loop-at
invariant-loop-at l = AreControlledTo l.graph l.rows l.at
