use Rattle.std.proofs.Common.{◌≡◌, ◌↔◌, ℕ, Contains, length, take}
use Rattle.hpr_search.specs.Rows.{numbers_at}
use Rattle.hpr_merge.proofs.firsts.rows_of.Given as goal

abbrev pub invariant-loop-step : goal.invariant-loop-step
invariant-loop-step l = record {
  count : length l.rows ≡ l.count;
  rows : (from to : ℕ) → Contains (numbers_at l.rows from) to ↔ Contains (take l.step-index l.steps) (from, to);
}
