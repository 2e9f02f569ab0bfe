use Rattle.std.proofs.Common.{◌≡◌, ◌<◌, ℕ, Some, vec_len, slice_get}
use Rattle.hpr_order.specs.declared.item.Item.{Item}
use Rattle.hpr_order.specs.Arranging.{IsProperItem}
use Rattle.hpr_order.specs.Numbers.{IsItemAt}
use Rattle.hpr_order.proofs.numbers.items_by.Given as goal

abbrev pub invariant-loop-number : goal.invariant-loop-number
invariant-loop-number l = record {
  len : vec_len l.items ≡ l.number-index;
  at : (k n : ℕ) → k < l.number-index → slice_get l.numbers k ≡ Some n → (i : Item) × (slice_get l.items.items k ≡ Some i) × (IsItemAt l.graph l.regions l.places n i × IsProperItem i);
}
