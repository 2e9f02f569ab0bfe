use Rattle.std.proofs.Common.{◌≡◌, length}
use Rattle.hpr_order.specs.Tables.{AreWithFirst}
use Rattle.hpr_order.proofs.blocks.push_first_blocks.Given as goal

abbrev pub invariant-loop-item : goal.invariant-loop-item
invariant-loop-item l = record {
  count : length l.before ≡ length l.fn.before;
  rows : AreWithFirst l.items l.item l.fn.before l.before;
}
