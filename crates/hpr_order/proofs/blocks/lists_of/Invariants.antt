use Rattle.std.proofs.Common.{◌≡◌, ◌<◌, ℕ, vec_len, slice_get}
use Rattle.hpr_search.specs.Rows.{numbers_at}
use Rattle.hpr_forest.specs.Blocks.{row_at}
use Rattle.hpr_order.proofs.blocks.lists_of.Given as goal

abbrev pub invariant-loop-at : goal.invariant-loop-at
invariant-loop-at l = record {
  len : vec_len l.lists ≡ l.at;
  same : (k : ℕ) → k < l.at → row_at (slice_get l.lists.items k) ≡ numbers_at l.rows k;
}
