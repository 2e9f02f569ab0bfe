use Rattle.std.proofs.Common.{◌↔◌, ℕ, Contains}
use Rattle.hpr_build.specs.Reaching.{IsSourceBelow}
use Rattle.hpr_build.proofs.reaching.points_to.Given as goal

abbrev pub invariant-loop-at : goal.invariant-loop-at
invariant-loop-at l = (p : ℕ) → Contains l.row.items p ↔ IsSourceBelow l.at l.points l.rows l.user p
