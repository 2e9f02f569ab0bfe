use Rattle.hpr_graph.specs.Numbered.{graph_in}
use Rattle.hpr_graph.specs.Answer.{merged_of, merged_of_all}
use Rattle.hpr_rebuild.proofs.Sames.{found_same}
use Rattle.hpr_rebuild.proofs.laws.same_graphs_find_the_same.Goals as goal

pub returns-clause-numbered : goal.returns-clause-numbered
returns-clause-numbered c = λ g h rank issued tries r s found. found_same (graph_in g) (graph_in h) s rank issued tries r found

pub returns-clause-all : goal.returns-clause-all
returns-clause-all c = λ g base vs rank issued tries r s found. found_same (graph_in g) (merged_of_all base vs) s rank issued tries r found

pub returns-clause-merged : goal.returns-clause-merged
returns-clause-merged c = λ g base a b rank issued tries r s found. found_same (graph_in g) (merged_of base a b) s rank issued tries r found
