use Rattle.std.proofs.Common.{◌-◌, ◌≤◌, length}
use Rattle.hpr_syntax.specs.Issued.{place_of}
use Rattle.hpr_syntax.proofs.issued.place.Given as goal

abbrev pub invariant-loop-low : goal.invariant-loop-low
invariant-loop-low l = (l.low ≤ place_of l.author l.rows) × (place_of l.author l.rows ≤ l.high) × (l.high ≤ length l.rows)

abbrev pub decreases-loop-low : goal.decreases-loop-low
decreases-loop-low l = l.high - l.low
