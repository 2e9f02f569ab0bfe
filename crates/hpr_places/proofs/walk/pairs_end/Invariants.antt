use Rattle.std.proofs.Common.{ℕ, ◌-◌, ◌≤◌, length}
use Rattle.hpr_places.specs.Private.Walk.{PairsEnd}
use Rattle.hpr_places.proofs.walk.pairs_end.Given as goal

abbrev pub invariant-loop-comma : goal.invariant-loop-comma
invariant-loop-comma l = (l.at ≤ length l.bytes) × ((m : ℕ) → PairsEnd l.bytes l.at m → PairsEnd l.bytes l.fn.at m)

abbrev pub decreases-loop-comma : goal.decreases-loop-comma
decreases-loop-comma l = length l.bytes - l.at
