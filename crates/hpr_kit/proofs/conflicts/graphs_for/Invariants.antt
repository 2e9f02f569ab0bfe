use Rattle.std.proofs.Common.{◌≡◌, ◌≤◌, length, take}
use Rattle.hpr_engine.specs.Made.{AreGraphsOf}
use Rattle.hpr_graph.specs.Numbered.{graphs_in}
use Rattle.hpr_graph.specs.Whole.{AreAll, IsWhole}
use Rattle.hpr_kit.specs.Private.Graphs.{AreGraphs}
use Rattle.hpr_kit.proofs.conflicts.graphs_for.Given as goal

abbrev pub invariant-loop-at : goal.invariant-loop-at
invariant-loop-at l = record {
  made : AreGraphs (take l.at l.programs) l.graphs.items;
  whole : AreAll IsWhole (graphs_in l.graphs.items);
  programs : AreGraphsOf (take l.at l.programs) l.graphs.items;
  count : length l.graphs.items ≡ l.at;
  within : l.at ≤ length l.programs;
}
