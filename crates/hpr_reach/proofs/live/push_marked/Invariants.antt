use Rattle.std.proofs.Common.{◌↔◌, ℕ, List, Contains}
use Rattle.hpr_search.specs.Marks.{IsMarked}
use Rattle.hpr_paths.specs.Spots.{UsesAt}
use Rattle.hpr_reach.specs.Live.{Below}
use Rattle.hpr_reach.proofs.live.push_marked.Given as goal

abbrev pub invariant-loop-point : goal.invariant-loop-point
invariant-loop-point l = (x : List ℕ) → Contains l.into.items x ↔ Below (λ p. IsMarked l.row p × UsesAt l.succ p x × ¬ Contains l.defined x) l.point
