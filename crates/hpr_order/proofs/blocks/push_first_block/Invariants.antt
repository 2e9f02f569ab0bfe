use Rattle.std.proofs.Common.{◌≡◌, length, take}
use Rattle.hpr_order.proofs.ItemRows.{AreWithSome}
use Rattle.hpr_order.proofs.blocks.push_first_block.Given as goal

abbrev pub invariant-loop-other : goal.invariant-loop-other
invariant-loop-other l = record {
  count : length l.before ≡ length l.fn.before;
  rows : AreWithSome l.items (take l.other-index l.siblings) l.item l.fn.before l.before;
}
