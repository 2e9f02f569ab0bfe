use Rattle.std.proofs.Common.{◌≡◌, ◌<◌, ℕ, true, false, get_or, length}
use Rattle.hpr_forest.proofs.pending.open_row.Given as goal

abbrev pub invariant-loop-at : goal.invariant-loop-at
invariant-loop-at l = record {
  count : length l.row ≡ length l.left;
  marked : (k : ℕ) → k < l.at → get_or l.left k 0 ≡ 0 → get_or l.row k false ≡ true;
}
