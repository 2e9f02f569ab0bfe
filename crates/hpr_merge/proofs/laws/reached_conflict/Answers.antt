use Rattle.std.proofs.Common.{[], ◌∷◌}
use Rattle.hpr_graph.specs.Answer.{graphs_of}
use Rattle.hpr_graph.specs.Conflicts.{number_of}
use Rattle.hpr_graph.specs.Numbered.{graph_in, graphs_in}
use Rattle.hpr_graph.specs.ProgramGraph.{graph_of}
use Rattle.hpr_closure.proofs.FiniteGraphs.{conflict_is_reached, finite_by_numbers, all_finite_by_numbers}
use Rattle.hpr_closure.proofs.ProgramFinite.{program_finite, programs_finite}
use Rattle.hpr_closure.proofs.ProgramWhole.{program_whole, programs_whole}
use Rattle.hpr_merge.proofs.laws.reached_conflict.Goals as goal

pub returns-clause-programs : goal.returns-clause-programs
returns-clause-programs c =
    λ base vs is all i v. conflict_is_reached (graph_of base) (program_whole base is) (program_finite base) (graphs_of vs) (programs_whole vs all) (programs_finite vs) i v

pub returns-clause-two : goal.returns-clause-two
returns-clause-two c =
    λ base a b is is_a is_b side v.
    conflict_is_reached (graph_of base) (program_whole base is) (program_finite base) (graph_of a ∷ graph_of b ∷ []) (program_whole a is_a, (program_whole b is_b, tt))
    (program_finite a, (program_finite b, tt)) (number_of side) v

pub returns-clause-numbered : goal.returns-clause-numbered
returns-clause-numbered c =
    λ base gs n ns whole wholes i v. conflict_is_reached (graph_in base) whole (finite_by_numbers base n) (graphs_in gs) wholes (all_finite_by_numbers gs ns) i v
