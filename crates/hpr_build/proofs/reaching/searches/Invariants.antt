use Rattle.std.proofs.Common.{◌≡◌, ◌<◌, ◌↔◌, ℕ, [], get_or, vec_len}
use Rattle.hpr_search.specs.Marks.{IsMarked}
use Rattle.hpr_reach.specs.Reaches.{Reaches}
use Rattle.hpr_build.proofs.reaching.searches.Given as goal

abbrev pub invariant-loop-point : goal.invariant-loop-point
invariant-loop-point l = record {
  len : vec_len l.rows ≡ l.point-index;
  exact : (i : ℕ) → i < l.point-index → (u : ℕ) → IsMarked (get_or l.rows.items i []) u ↔ Reaches l.succ l.name [] (get_or l.points i 0) u;
}
