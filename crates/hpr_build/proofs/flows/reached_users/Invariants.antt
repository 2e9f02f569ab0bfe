use Rattle.std.proofs.Common.{◌↔◌, ℕ, Contains, take}
use Rattle.hpr_search.specs.Marks.{IsMarked}
use Rattle.hpr_graph.specs.Graphs.{IsOnce}
use Rattle.hpr_build.proofs.flows.reached_users.Given as goal

abbrev pub invariant-loop-point : goal.invariant-loop-point
invariant-loop-point l = record {
  exact : (p : ℕ) → Contains l.reached.items p ↔ (Contains (take l.point-index l.points) p × IsMarked l.users p);
  once : IsOnce l.reached.items;
}
