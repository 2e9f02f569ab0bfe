use Rattle.std.proofs.Common.{◌≡◌, ◌↔◌, ℕ, Contains, take, vec_len}
use Rattle.hpr_search.specs.Marks.{IsMarked}
use Rattle.hpr_build.proofs.flows.marked.Given as goal

abbrev pub invariant-loop-point : goal.invariant-loop-point
invariant-loop-point l = record {
  len : vec_len l.row ≡ l.count;
  marks : (p : ℕ) → IsMarked l.row.items p ↔ Contains (take l.point-index l.points) p;
}
