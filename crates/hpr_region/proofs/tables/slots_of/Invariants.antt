use Rattle.std.proofs.Common.{◌≡◌, ◌<◌, ◌≤◌, ℕ, Some, length, vec_len, slice_get}
use Rattle.hpr_order.specs.declared.item.Item.{Item}
use Rattle.hpr_region.proofs.tables.slots_of.Given as goal

abbrev pub invariant-loop-item : goal.invariant-loop-item
invariant-loop-item l = record {
  len : vec_len l.slots ≡ l.item-index;
  end : l.item-index ≤ length l.items;
  slots : (k : ℕ) → k < l.item-index → (i : Item) → slice_get l.items k ≡ Some i → slice_get l.slots.items k ≡ Some i.slot;
}
