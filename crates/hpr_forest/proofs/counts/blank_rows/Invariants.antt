use Rattle.std.proofs.Common.{◌≡◌, ℕ, [], length}
use Rattle.hpr_forest.specs.Counting.{row_of}
use Rattle.hpr_forest.proofs.counts.blank_rows.Given as goal

abbrev pub invariant-loop : goal.invariant-loop
invariant-loop l = record {
  count : length l.rows.items ≡ l.counter;
  blank : (k : ℕ) → row_of l.rows.items k ≡ [];
}
