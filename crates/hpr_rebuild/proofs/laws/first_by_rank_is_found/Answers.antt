use Rattle.hpr_graph.specs.Numbered.{graph_in}
use Rattle.hpr_rebuild.proofs.Unchanged.{found_first}
use Rattle.hpr_rebuild.proofs.laws.first_by_rank_is_found.Goals as goal

pub returns : goal.returns
returns c = λ g rank rest issued tries r p q once prog fits proper allowed s begins one found.
    found_first (graph_in g) rank rest issued tries r p q once prog fits proper allowed s begins one found
