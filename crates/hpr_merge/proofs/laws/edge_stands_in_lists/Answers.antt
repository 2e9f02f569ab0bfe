use Rattle.hpr_graph.specs.Numbered.{graph_in, graphs_in}
use Rattle.hpr_closure.proofs.FiniteGraphs.{finite_by_numbers, all_finite_by_numbers}
use Rattle.hpr_merge.proofs.EdgeStands.{edge_stands, kept_or_added}
use Rattle.hpr_merge.proofs.laws.edge_stands_in_lists.Goals as goal

pub returns-clause-stands : goal.returns-clause-stands
returns-clause-stands c = λ base gs n ns whole wholes i v. edge_stands (graph_in base) (graphs_in gs) whole (finite_by_numbers base n) wholes (all_finite_by_numbers gs ns) i v

pub returns-clause-kept_or_added : goal.returns-clause-kept_or_added
returns-clause-kept_or_added c = λ base gs n ns whole wholes i v. kept_or_added (graph_in base) (graphs_in gs) whole (finite_by_numbers base n) wholes (all_finite_by_numbers gs ns) i v
