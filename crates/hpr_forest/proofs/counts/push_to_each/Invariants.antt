use Rattle.std.proofs.Common.{◌≡◌, ◌+◌, ℕ, cond, eqb, drop, length}
use Rattle.hpr_forest.specs.Counting.{occurrences, row_of}
use Rattle.hpr_forest.proofs.counts.push_to_each.Given as goal

abbrev pub invariant-loop-at : goal.invariant-loop-at
invariant-loop-at l = record {
  count : length l.rows.items ≡ length l.fn.rows.items;
  rows : (k n : ℕ) → occurrences (row_of l.rows.items k) n + cond (eqb l.number n) (occurrences (drop l.at-index l.each) k) 0
      ≡ occurrences (row_of l.fn.rows.items k) n + cond (eqb l.number n) (occurrences l.each k) 0;
}
