use Rattle.std.proofs.Common.{◌≡◌, ◌<◌, ◌≤◌, ℕ, Some, length, vec_len, slice_get}
use Rattle.hpr_forest.specs.Blocks.{row_at}
use Rattle.hpr_order.specs.declared.item.Item.{Item}
use Rattle.hpr_region.specs.Tables.{AreUsed}
use Rattle.hpr_region.proofs.tables.uses_of.Given as goal

abbrev pub invariant-loop-item : goal.invariant-loop-item
invariant-loop-item l = record {
  len : vec_len l.rows ≡ l.item-index;
  end : l.item-index ≤ length l.items;
  uses : (k : ℕ) → k < l.item-index → (i : Item) → slice_get l.items k ≡ Some i → AreUsed l.names (row_at (slice_get l.rows.items k)) i.content;
}
