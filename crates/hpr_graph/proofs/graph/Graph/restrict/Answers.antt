use Rattle.std.proofs.Common.{subst}
use Rattle.hpr_graph.specs.Numbered.{Numbered, IsNumbered}
use Rattle.hpr_graph.proofs.graph.Graph.restrict.Goals as goal

pub restricted-requires-clause-numbered : goal.restricted-requires-clause-numbered
restricted-requires-clause-numbered c = subst (λ (g : Numbered). IsNumbered g) c.self.view_is c.alloc.ensures.numbered
