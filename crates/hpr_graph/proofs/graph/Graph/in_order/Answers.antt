use Rattle.std.proofs.Common.{subst}
use Rattle.hpr_graph.specs.Numbered.{Numbered, IsNumbered}
use Rattle.hpr_graph.proofs.graph.Graph.in_order.Goals as goal

pub ordered-requires : goal.ordered-requires
ordered-requires c = subst (λ (g : Numbered). IsNumbered g) c.self.view_is c.alloc.ensures.numbered
