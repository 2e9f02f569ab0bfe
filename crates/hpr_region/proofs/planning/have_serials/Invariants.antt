use Rattle.std.proofs.Common.{◌≡◌, ◌<◌, ◌≤◌, ℕ, Some, slice_get}
use Rattle.hpr_order.specs.declared.item.Item.{Item}
use Rattle.hpr_region.proofs.planning.have_serials.Given as goal

abbrev pub invariant-loop-item : goal.invariant-loop-item
invariant-loop-item l = (k : ℕ) (i : Item) → k < l.item-index → slice_get l.items k ≡ Some i → 1 ≤ i.tag.serial
