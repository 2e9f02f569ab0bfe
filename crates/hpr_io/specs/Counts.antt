-- Counts of failures. A count is a number that a shelf or a sink keeps, at most the last value of a u64.
--
-- one_more n                     == n + 1, and n where it is the last value of a u64
-- Rose before now                == the count is greater now than before, or stands at its last value
-- Counted before now has_failed  == over a call the count never fell; where the call failed it rose, and
--                                   otherwise it stayed
use Rattle.std.specs.Prelude.{◌≡◌, ℕ, ◌+◌, ◌-◌, ◌^◌, ◌<◌, ◌≤◌, ◌⊎◌, min}

abbrev pub one_more : ℕ → ℕ
one_more n = min (n + 1) (2 ^ 64 - 1)

abbrev pub Rose : ℕ → ℕ → Type 0
Rose before now = (before < now) ⊎ (now ≡ 2 ^ 64 - 1)

pub record Counted (before now : ℕ) (has_failed : Type 0) : Type 0 where
  pub later : before ≤ now
  pub rose : has_failed → Rose before now
  pub quiet : ¬ has_failed → now ≡ before
