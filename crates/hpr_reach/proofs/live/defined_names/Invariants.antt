use Rattle.std.proofs.Common.{◌≡◌, ◌↔◌, ℕ, Some, List, Contains}
use Rattle.hpr_paths.specs.Spots.{defined_at}
use Rattle.hpr_reach.specs.Live.{Below}
use Rattle.hpr_reach.proofs.live.defined_names.Given as goal

abbrev pub invariant-loop-point : goal.invariant-loop-point
invariant-loop-point l = (x : List ℕ) → Contains l.names.items x ↔ Below (λ p. defined_at l.succ p ≡ Some x) l.point
