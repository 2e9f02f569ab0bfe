use Rattle.std.proofs.Common.{◌≡◌, ◌++◌, drop, map}
use Rattle.serde_json.specs.View.{view}
use Rattle.hpr_json.specs.Vertices.{vertex_data}
use Rattle.hpr_json.proofs.vertices.vertex_values.Given as goal

abbrev pub invariant-loop-vertex : goal.invariant-loop-vertex
invariant-loop-vertex l = map view l.values.items ++ map vertex_data (drop l.vertex-index l.vertices) ≡ map vertex_data l.vertices
