use Rattle.std.proofs.Common.{◌↔◌, ◌⊎◌, ℕ, take}
use Rattle.hpr_graph.specs.declared.link.Link.{Link}
use Rattle.hpr_graph.specs.Numbered.{HasLink}
use Rattle.hpr_build.specs.NewLinks.{FlowsFrom}
use Rattle.hpr_build.specs.Stages.{IsBegun}
use Rattle.hpr_build.proofs.Families.{SomeOf}
use Rattle.hpr_build.proofs.flow_links.push_flows_of_sources.Given as goal

abbrev pub invariant-loop-source : goal.invariant-loop-source
invariant-loop-source l = record {
  begun : IsBegun l.tables.program.now l.tables.inits.items l.tables.most l.graph;
  added : (to : ℕ) (k : Link) → HasLink l.graph to k ↔ (HasLink l.fn.graph to k ⊎ SomeOf (take l.source-index l.source-items) (λ s. FlowsFrom l.tables.program.now l.variable.name.now s.point s.number to k));
}
