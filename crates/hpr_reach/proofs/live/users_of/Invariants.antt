use Rattle.std.proofs.Common.{◌≡◌, ◌<◌, ◌≤◌, ◌↔◌, ℕ, Some, List, Contains, length, slice_get}
use Rattle.hpr_search.specs.Rows.{numbers_at}
use Rattle.hpr_paths.specs.Spots.{UsesAt}
use Rattle.hpr_reach.proofs.live.users_of.Given as goal

abbrev pub invariant-loop-point : goal.invariant-loop-point
invariant-loop-point l = record {
  names : length l.names ≤ length l.rows;
  points : length l.succ ≤ length l.rows;
  rows : (i : ℕ) (x : List ℕ) → slice_get l.names i ≡ Some x → (p : ℕ) → Contains (numbers_at l.rows i) p ↔ ((p < l.point) × UsesAt l.succ p x);
}
