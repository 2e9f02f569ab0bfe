use Rattle.std.proofs.Common.{◌≡◌, ◌<◌, ℕ, true, false, get_or, length}
use Rattle.hpr_forest.proofs.pending.open_each.Given as goal

abbrev pub invariant-loop-entry : goal.invariant-loop-entry
invariant-loop-entry l = record {
  count : length l.row ≡ length l.fn.row;
  kept : (k : ℕ) → get_or l.fn.row k false ≡ true → get_or l.row k false ≡ true;
  marked : (i : ℕ) → i < l.entry-index → get_or l.left (get_or l.entries i 0) 0 ≡ 0 → get_or l.row (get_or l.entries i 0) false ≡ true;
}
