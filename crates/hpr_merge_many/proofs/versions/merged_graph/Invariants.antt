use Rattle.std.proofs.Common.{take}
use Rattle.hpr_graph.specs.Graphs.{Same}
use Rattle.hpr_graph.specs.Numbered.{graph_in, graphs_in}
use Rattle.hpr_graph.specs.Points.{changed}
use Rattle.hpr_merge_many.proofs.versions.merged_graph.Given as goal

abbrev pub invariant-loop-at : goal.invariant-loop-at
invariant-loop-at l = Same (graph_in l.changed) (changed (graph_in l.base) (graphs_in (take l.at l.variants)))
