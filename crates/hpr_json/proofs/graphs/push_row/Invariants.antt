use Rattle.std.proofs.Common.{◌≡◌, ◌++◌, drop, map}
use Rattle.serde_json.specs.View.{view}
use Rattle.hpr_graph.specs.Numbered.{row_of}
use Rattle.hpr_graph.specs.InOrder.{edge_of, row_edges}
use Rattle.hpr_report.specs.GraphJson.{edge_data}
use Rattle.hpr_json.proofs.graphs.push_row.Given as goal

abbrev pub invariant-loop-link : goal.invariant-loop-link
invariant-loop-link l = record {
  row : l.link-items ≡ row_of l.graph l.to;
  values : map view l.values.items ++ map (edge_data l.graph.vertices) (map (edge_of l.graph.vertices l.to) (drop l.link-index l.link-items)) ≡ map view l.initial.values.items ++ map (edge_data l.graph.vertices) (row_edges l.graph l.to);
}
