use Rattle.hpr_rebuild.proofs.Alike.{settled_same}
use Rattle.hpr_rebuild.proofs.Member.{settled, settled_program}
use Rattle.hpr_rebuild.proofs.laws.settled_stays.Goals as goal

pub returns-clause-stands : goal.returns-clause-stands
returns-clause-stands c = λ issued p prog. settled issued p prog

pub returns-clause-graph : goal.returns-clause-graph
returns-clause-graph c = λ issued p q s. settled_same issued p q s

pub returns-clause-program : goal.returns-clause-program
returns-clause-program c = λ issued p q prog proper allowed s. settled_program issued p q prog proper allowed s
