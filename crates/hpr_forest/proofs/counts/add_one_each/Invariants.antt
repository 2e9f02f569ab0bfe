use Rattle.std.proofs.Common.{◌≡◌, ◌+◌, ℕ, drop, get_or, length}
use Rattle.hpr_forest.specs.Counting.{occurrences}
use Rattle.hpr_forest.proofs.counts.add_one_each.Given as goal

abbrev pub invariant-loop-entry : goal.invariant-loop-entry
invariant-loop-entry l = record {
  count : length l.left.items ≡ length l.fn.left.items;
  each : (k : ℕ) → get_or l.left.items k 0 + occurrences (drop l.entry-index l.entries) k ≡ get_or l.fn.left.items k 0 + occurrences l.entries k;
}
