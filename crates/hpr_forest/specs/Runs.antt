-- Rows of marks in runs of 64 places.
--
-- marks_by f xs           == how many marks stand in the list at places for which f is true
-- is_in_run run at        == whether the place stands in the run
-- AreRunsOf marks counts  == for each run how many marks it has
use Rattle.std.specs.Prelude.{◌≡◌, ℕ, suc, ◌+◌, ◌/◌, ◌<◌, Bool, false, cond, eqb, List, [], ◌∷◌, length, get_or}
use Rattle.hpr_forest.specs.Counting.{one_if}

abbrev pub marks_by : (ℕ → Bool) → List Bool → ℕ
marks_by f [] = 0
marks_by f (b ∷ bs) = one_if (cond b (f 0) false) + marks_by (λ i. f (suc i)) bs

abbrev pub is_in_run : ℕ → ℕ → Bool
is_in_run run at = eqb (at / 64) run

pub record AreRunsOf (marks : List Bool) (counts : List ℕ) : Type 0 where
  pub within : (at : ℕ) → at < length marks → at / 64 < length counts
  pub each : (run : ℕ) → run < length counts → get_or counts run 0 ≡ marks_by (is_in_run run) marks
