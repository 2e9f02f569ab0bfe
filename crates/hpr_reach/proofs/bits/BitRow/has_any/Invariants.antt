use Rattle.std.proofs.Common.{ℕ, ◌<◌, get_or}
use Rattle.hpr_search.specs.Marks.{IsMarked}
use Rattle.hpr_reach.proofs.bits.BitRow.has_any.Given as goal

abbrev pub invariant-loop-point : goal.invariant-loop-point
invariant-loop-point l = (k : ℕ) → k < l.point-index → IsMarked l.self (get_or l.points k 0) → ⊥
