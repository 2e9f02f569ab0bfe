use Rattle.hpr_graph.specs.Numbered.{graph_in}
use Rattle.hpr_rebuild.proofs.Counted.{parts_of_arrangement}
use Rattle.hpr_rebuild.proofs.laws.arrangements_have_the_parts.Goals as goal

pub returns : goal.returns
returns c = λ g issued p is. parts_of_arrangement (graph_in g) issued p is
