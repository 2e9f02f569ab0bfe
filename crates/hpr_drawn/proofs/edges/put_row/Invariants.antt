use Rattle.std.proofs.Common.{◌≡◌, ◌++◌, drop, map}
use Rattle.hpr_graph.specs.Numbered.{row_of}
use Rattle.hpr_graph.specs.InOrder.{edge_of, row_edges}
use Rattle.hpr_drawn.specs.Pictures.{edges_text}
use Rattle.hpr_drawn.proofs.edges.put_row.Given as goal

abbrev pub invariant-loop-link : goal.invariant-loop-link
invariant-loop-link l = record {
  row : l.link-items ≡ row_of l.graph l.to;
  text : l.out.items ++ edges_text l.left_out (map (edge_of l.graph.vertices l.to) (drop l.link-index l.link-items)) ≡ l.initial.out.items ++ edges_text l.left_out (row_edges l.graph l.to);
}
