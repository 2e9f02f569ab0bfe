use Rattle.std.proofs.Common.{◌≡◌, length}
use Rattle.hpr_order.proofs.ItemRows.{AreUnderTo}
use Rattle.hpr_order.proofs.blocks.children_of.Given as goal

abbrev pub invariant-loop-child : goal.invariant-loop-child
invariant-loop-child l = record {
  count : length l.rows ≡ length l.items;
  under : AreUnderTo l.items l.child l.rows;
}
