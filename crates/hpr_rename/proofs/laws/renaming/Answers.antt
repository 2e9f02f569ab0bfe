use Rattle.hpr_rename.proofs.OneToOne.{renamed_graph}
use Rattle.hpr_rename.proofs.Own.{renamed_run, renamed_instances}
use Rattle.hpr_rename.proofs.Programs.{renamed_program}
use Rattle.hpr_rename.proofs.laws.renaming.Goals as goal

pub returns-clause-graph : goal.returns-clause-graph
returns-clause-graph c = λ f issued t one. renamed_graph f t one issued

pub returns-clause-program : goal.returns-clause-program
returns-clause-program c = λ f issued t one. renamed_program f issued t one

pub returns-clause-run : goal.returns-clause-run
returns-clause-run c = renamed_run

pub returns-clause-instances : goal.returns-clause-instances
returns-clause-instances c = renamed_instances
