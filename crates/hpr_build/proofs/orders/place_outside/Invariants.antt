use Rattle.std.proofs.Common.{ℕ, ◌<◌, ◌≤◌, ◌-◌, get_or, length}
use Rattle.hpr_build.specs.Places.{IsAmong}
use Rattle.hpr_build.proofs.orders.place_outside.Given as goal

abbrev pub invariant-loop-at : goal.invariant-loop-at
invariant-loop-at l = record {
  from : l.start ≤ l.at;
  within : l.at ≤ length l.points;
  passed : (k : ℕ) → l.start ≤ k → k < l.at → IsAmong l.spans (get_or l.points k 0);
}

abbrev pub decreases-loop-at : goal.decreases-loop-at
decreases-loop-at l = length l.initial.points - l.at
