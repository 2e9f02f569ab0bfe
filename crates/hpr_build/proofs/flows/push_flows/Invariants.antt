use Rattle.std.proofs.Common.{◌≡◌, ◌⊎◌, ◌↔◌, Contains}
use Rattle.hpr_build.specs.declared.flows.Flow.{Flow}
use Rattle.hpr_build.specs.Flows.{IsFlowBelow}
use Rattle.hpr_graph.specs.Graphs.{IsOnce}
use Rattle.hpr_build.proofs.flows.push_flows.Given as goal

abbrev pub invariant-loop-i : goal.invariant-loop-i
invariant-loop-i l = record {
  exact : (f : Flow) → Contains l.into.items f ↔ (Contains l.fn.into.items f ⊎ IsFlowBelow l.i l.nest l.cut l.carries l.user f);
  once : IsOnce l.fn.into.items → IsOnce l.nest → ((f : Flow) → Contains l.fn.into.items f → f.to ≡ l.user → ⊥) → IsOnce l.into.items;
}
