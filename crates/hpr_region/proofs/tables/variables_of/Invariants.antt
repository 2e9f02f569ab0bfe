use Rattle.std.proofs.Common.{◌≡◌, ◌<◌, ◌≤◌, ℕ, length, vec_len, slice_get}
use Rattle.hpr_region.proofs.Made.{HasVariable}
use Rattle.hpr_region.proofs.tables.variables_of.Given as goal

abbrev pub invariant-loop-item : goal.invariant-loop-item
invariant-loop-item l = record {
  len : vec_len l.variables ≡ l.item-index;
  end : l.item-index ≤ length l.items;
  variables : (k : ℕ) → k < l.item-index → HasVariable l.names l.items k (slice_get l.variables.items k);
}
