use Rattle.std.proofs.Common.{◌≡◌, ◌<◌, ◌≤◌, ◌^◌, ℕ, get_or, length, vec_len}
use Rattle.hpr_forest.specs.Counting.{row_of}
use Rattle.hpr_forest.proofs.counts.lengths_of.Given as goal

abbrev pub invariant-loop-at : goal.invariant-loop-at
invariant-loop-at l = record {
  count : vec_len l.lengths ≡ l.at;
  end : l.at ≤ length l.rows;
  lengths : (k : ℕ) → k < l.at → get_or l.lengths.items k 0 ≡ length (row_of l.rows k);
  room : (k : ℕ) → k < l.at → length (row_of l.rows k) < 2 ^ 64;
}
