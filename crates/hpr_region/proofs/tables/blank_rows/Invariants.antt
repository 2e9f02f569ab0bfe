use Rattle.std.proofs.Common.{◌≡◌, ℕ, Contains, length}
use Rattle.hpr_search.specs.Rows.{numbers_at, numbers_of}
use Rattle.hpr_region.proofs.tables.blank_rows.Given as goal

abbrev pub invariant-loop : goal.invariant-loop
invariant-loop l = record {
  count : length l.rows.items ≡ l.counter;
  blank : (at n : ℕ) → ¬ Contains (numbers_at (numbers_of l.rows.items) at) n;
}
