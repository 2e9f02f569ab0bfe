use Rattle.std.proofs.Common.{◌↔◌, ◌⊎◌, ℕ, take}
use Rattle.hpr_graph.specs.declared.link.Link.{Link}
use Rattle.hpr_graph.specs.Numbered.{HasLink}
use Rattle.hpr_build.specs.NewLinks.{OrdersAt}
use Rattle.hpr_build.specs.Stages.{IsBegun}
use Rattle.hpr_build.proofs.Families.{SomeOf}
use Rattle.hpr_build.proofs.order_links.push_orders_of.Given as goal

abbrev pub invariant-loop-at : goal.invariant-loop-at
invariant-loop-at l = record {
  begun : IsBegun l.tables.program.now l.tables.inits.items l.tables.most l.graph;
  added : (to : ℕ) (k : Link) → HasLink l.graph to k ↔ (HasLink l.fn.graph to k ⊎ SomeOf (take l.at l.variable.users.now) (λ u. OrdersAt l.tables.program.now l.variable.name.now u to k));
}
