use Rattle.hpr_graph.specs.Numbered.{graph_in}
use Rattle.hpr_rebuild.proofs.Member.{member}
use Rattle.hpr_rebuild.proofs.First.{settled_first}
use Rattle.hpr_rebuild.proofs.laws.first_by_rank.Goals as goal

pub returns : goal.returns
returns c = λ g rank rest issued ps p q are once prog fits proper allowed s begins.
    settled_first (graph_in g) rank issued ps p q rest are once s (member (graph_in g) issued p q prog fits proper allowed s) begins
