use Rattle.std.proofs.Common.{◌≡◌, ◌≤◌, length, vec_len, drop}
use Rattle.hpr_order.specs.Building.{AreBlocks}
use Rattle.hpr_order.proofs.building.block_in.Given as goal

abbrev pub invariant-parts : goal.invariant-parts
invariant-parts l = record {
  within : l.at ≤ length l.order;
  count : vec_len l.pending.branches ≡ length l.items;
  blocks : AreBlocks l.items (drop l.at l.order) l.pending;
}

abbrev pub decreases-parts : goal.decreases-parts
decreases-parts l = l.at
