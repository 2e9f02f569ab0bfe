use Rattle.hpr_graph.specs.Numbered.{graph_in}
use Rattle.hpr_graph.specs.ProgramGraph.{graph_of}
use Rattle.hpr_closure.proofs.FiniteGraphs.{finite_by_numbers}
use Rattle.hpr_closure.proofs.ProgramFinite.{program_finite}
use Rattle.hpr_closure.proofs.ProgramWhole.{program_whole}
use Rattle.hpr_closure.proofs.Reached.{affected_reached}
use Rattle.hpr_affected.proofs.laws.reached_affected.Goals as goal

pub returns-clause-programs : goal.returns-clause-programs
returns-clause-programs c = λ t u is is_too v. affected_reached (graph_of t) (graph_of u) (program_finite t) (program_finite u) (program_whole t is) (program_whole u is_too) v

pub returns-clause-numbered : goal.returns-clause-numbered
returns-clause-numbered c = λ g h n n_too whole whole_too v. affected_reached (graph_in g) (graph_in h) (finite_by_numbers g n) (finite_by_numbers h n_too) whole whole_too v
