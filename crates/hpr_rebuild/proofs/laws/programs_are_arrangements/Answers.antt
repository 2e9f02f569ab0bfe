use Rattle.hpr_graph.specs.Numbered.{graph_in}
use Rattle.hpr_rebuild.proofs.Member.{member, none_has}
use Rattle.hpr_rebuild.proofs.laws.programs_are_arrangements.Goals as goal

pub returns-clause-member : goal.returns-clause-member
returns-clause-member c = λ g issued p q prog fits proper allowed s. member (graph_in g) issued p q prog fits proper allowed s

pub returns-clause-none : goal.returns-clause-none
returns-clause-none c = λ g rank issued ps are proper allowed none. none_has (graph_in g) rank issued ps are proper allowed none
