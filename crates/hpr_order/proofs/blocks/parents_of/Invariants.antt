use Rattle.std.proofs.Common.{◌≡◌, ◌<◌, ℕ, Some, vec_len, slice_get}
use Rattle.hpr_order.specs.Lifting.{parent_in}
use Rattle.hpr_order.proofs.blocks.parents_of.Given as goal

abbrev pub invariant-loop-item : goal.invariant-loop-item
invariant-loop-item l = record {
  len : vec_len l.parents ≡ l.item;
  parents : (k : ℕ) → k < l.item → slice_get l.parents.items k ≡ Some (parent_in l.items k);
}
