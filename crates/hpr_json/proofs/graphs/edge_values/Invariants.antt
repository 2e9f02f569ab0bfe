use Rattle.std.proofs.Common.{◌≡◌, ◌++◌, map}
use Rattle.serde_json.specs.View.{view}
use Rattle.hpr_report.specs.GraphJson.{edge_data}
use Rattle.hpr_json.proofs.Rows.{edges_past}
use Rattle.hpr_json.proofs.graphs.edge_values.Given as goal

abbrev pub invariant-loop-to : goal.invariant-loop-to
invariant-loop-to l = map view l.values.items ++ map (edge_data l.graph.vertices) (edges_past l.graph l.to) ≡ map (edge_data l.graph.vertices) (edges_past l.graph 0)
