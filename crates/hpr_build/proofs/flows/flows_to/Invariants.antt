use Rattle.std.proofs.Common.{◌↔◌, Contains, take}
use Rattle.hpr_build.specs.declared.flows.Flow.{Flow}
use Rattle.hpr_build.specs.Flows.{IsFlowAt}
use Rattle.hpr_graph.specs.Graphs.{IsOnce}
use Rattle.hpr_build.proofs.flows.flows_to.Given as goal

abbrev pub invariant-loop-user : goal.invariant-loop-user
invariant-loop-user l = record {
  exact : (f : Flow) → Contains l.flows.items f ↔ (Contains (take l.user-index l.users) f.to × IsFlowAt l.succ l.name l.from f.to f.kind);
  once : IsOnce l.users → IsOnce l.flows.items;
}
