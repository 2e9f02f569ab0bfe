use Rattle.hpr_graph.specs.Numbered.{graphs_in}
use Rattle.hpr_graph.specs.Whole.{AreAll, IsWhole}
use Rattle.hpr_kit_calls.proofs.graphs.program_graphs.Given as goal

abbrev pub invariant-loop-at : goal.invariant-loop-at
invariant-loop-at l = AreAll IsWhole (graphs_in l.graphs.items)
