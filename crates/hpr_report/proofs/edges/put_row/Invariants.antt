use Rattle.std.proofs.Common.{◌≡◌, ◌++◌, drop, map}
use Rattle.hpr_graph.specs.Numbered.{row_of}
use Rattle.hpr_graph.specs.InOrder.{edge_of, row_edges}
use Rattle.hpr_report.specs.GraphTexts.{edge_text, on_lines}
use Rattle.hpr_report.proofs.edges.put_row.Given as goal

abbrev pub invariant-loop-link : goal.invariant-loop-link
invariant-loop-link l = record {
  row : l.link-items ≡ row_of l.of.graph.now l.to;
  lines : l.out.items ++ on_lines (map edge_text (map (edge_of l.of.graph.now.vertices l.to) (drop l.link-index l.link-items))) ≡ l.initial.out.items ++ on_lines (map edge_text (row_edges l.of.graph.now l.to));
}
