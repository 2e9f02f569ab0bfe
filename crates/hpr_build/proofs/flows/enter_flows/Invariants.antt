use Rattle.std.proofs.Common.{◌≡◌, ◌↔◌, Contains, take}
use Rattle.hpr_search.specs.Marks.{IsMarked}
use Rattle.hpr_graph.specs.Graphs.{IsOnce}
use Rattle.hpr_build.specs.declared.flows.Flow.{Flow}
use Rattle.hpr_build.specs.declared.flows.FlowKind.TheVariants.{Independent}
use Rattle.hpr_build.proofs.flows.enter_flows.Given as goal

abbrev pub invariant-loop-user : goal.invariant-loop-user
invariant-loop-user l = record {
  exact : (f : Flow) → Contains l.flows.items f ↔ ((f.kind ≡ Independent) × Contains (take l.user-index l.users) f.to × IsMarked l.row f.to);
  once : IsOnce l.users → IsOnce l.flows.items;
}
