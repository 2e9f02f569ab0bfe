use Rattle.hpr_graph.specs.Answer.{graphs_of}
use Rattle.hpr_graph.specs.ProgramGraph.{graph_of}
use Rattle.hpr_engine.proofs.OneList.{all_conflicts_one, one_conflicts}
use Rattle.hpr_engine.proofs.laws.conflicts_are_one.Goals as goal

pub returns-clause-all : goal.returns-clause-all
returns-clause-all c = λ base vs cs ds h k. all_conflicts_one (λ t. t) (graph_of base) (graphs_of vs) cs ds h k

pub returns-clause-two : goal.returns-clause-two
returns-clause-two c = λ base a b cs ds h k. one_conflicts (graph_of base) (graph_of a) (graph_of b) cs ds h k
