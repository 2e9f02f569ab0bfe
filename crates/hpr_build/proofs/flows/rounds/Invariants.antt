use Rattle.std.proofs.Common.{◌≡◌, ◌↔◌, ℕ, length, vec_len}
use Rattle.hpr_search.specs.Marks.{IsMarked}
use Rattle.hpr_build.proofs.Rounds.{Around}
use Rattle.hpr_build.proofs.flows.rounds.Given as goal

abbrev pub invariant-loop-point : goal.invariant-loop-point
invariant-loop-point l = record {
  len : vec_len l.round ≡ length l.succ;
  marks : (w : ℕ) → IsMarked l.round.items w ↔ Around l.succ l.name l.from l.points l.point-index w;
}
