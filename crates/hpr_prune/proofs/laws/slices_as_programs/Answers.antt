use Rattle.std.proofs.Common.{Contains}
use Rattle.hpr_graph.specs.Numbered.{graph_in}
use Rattle.hpr_prune.proofs.Shapes.{is_program}
use Rattle.hpr_prune.proofs.Sliced.{listed_graph, listed_kept}
use Rattle.hpr_prune.proofs.laws.slices_as_programs.Goals as goal

pub returns-clause-program : goal.returns-clause-program
returns-clause-program f = λ p q vertices ip pr. is_program (Contains vertices) p q ip pr

pub returns-clause-graph : goal.returns-clause-graph
returns-clause-graph f = λ p q slice ip is pr. listed_graph p q (graph_in slice) ip is pr

pub returns-clause-kept : goal.returns-clause-kept
returns-clause-kept f' = λ p q slice s n f ip is pr e. listed_kept p q (graph_in slice) ip is pr s n f e
