use Rattle.std.proofs.Common.{◌≡◌, ◌<◌, ℕ, Some, List, Contains, slice_get}
use Rattle.hpr_syntax.specs.Rows.{assigned}
use Rattle.hpr_order.specs.declared.item.Item.{Item}
use Rattle.hpr_region.proofs.tables.defined_names.Given as goal

abbrev pub invariant-loop-item : goal.invariant-loop-item
invariant-loop-item l = (k : ℕ) (i : Item) (x : List ℕ) → k < l.item-index → slice_get l.items k ≡ Some i → assigned i.content ≡ Some x → Contains l.names.items x
