use Rattle.std.proofs.Common.{◌≡◌, ◌+◌, ℕ, cond, eqb, drop, length}
use Rattle.hpr_search.specs.Rows.{numbers_at, numbers_of}
use Rattle.hpr_region.specs.Private.Needs.{occurrences}
use Rattle.hpr_region.proofs.rivals.push_to_each.Given as goal

abbrev pub invariant-loop-at : goal.invariant-loop-at
invariant-loop-at l = record {
  count : length l.rows.items ≡ length l.fn.rows.items;
  rows : (d u : ℕ) → occurrences (numbers_at (numbers_of l.rows.items) u) d + cond (eqb l.number d) (occurrences (drop l.at-index l.each) u) 0
      ≡ occurrences (numbers_at (numbers_of l.fn.rows.items) u) d + cond (eqb l.number d) (occurrences l.each u) 0;
}
