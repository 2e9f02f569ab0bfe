use Rattle.std.proofs.Common.{subst}
use Rattle.hpr_graph.specs.Numbered.{Numbered, IsLink}
use Rattle.hpr_graph.proofs.Reordered.{row_in_order}
use Rattle.hpr_graph.proofs.graph.Graph.edges_into.Goals as goal

pub returns-clause-links : goal.returns-clause-links
returns-clause-links c = λ l h. subst (λ (g : Numbered). IsLink g c.args.at l) c.self.view_is (c.edges_into.ensures.links l h)

pub returns-clause-ascend : goal.returns-clause-ascend
returns-clause-ascend c = row_in_order c.self.inside.draft c.args.at c.edges_into.result.now c.self.invariant c.edges_into.ensures.row
