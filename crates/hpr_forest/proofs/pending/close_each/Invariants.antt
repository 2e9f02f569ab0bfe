use Rattle.std.proofs.Common.{◌≡◌, ℕ, false, get_or, length, Contains}
use Rattle.hpr_forest.proofs.pending.close_each.Given as goal

abbrev pub invariant-loop-place : goal.invariant-loop-place
invariant-loop-place l = record {
  count : length l.row ≡ length l.fn.row;
  kept : (k : ℕ) → ¬ Contains l.places k → get_or l.row k false ≡ get_or l.fn.row k false;
}
