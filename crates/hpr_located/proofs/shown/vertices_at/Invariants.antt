use Rattle.std.proofs.Common.{◌≡◌, ◌++◌, drop, map}
use Rattle.serde_json.specs.View.{view}
use Rattle.hpr_located.specs.Sources.{standing_of}
use Rattle.hpr_located.specs.Shown.{located_data}
use Rattle.hpr_located.proofs.shown.vertices_at.Given as goal

abbrev pub invariant-loop-vertex : goal.invariant-loop-vertex
invariant-loop-vertex l = map view l.values.items ++ map (located_data (map standing_of l.sources)) (drop l.vertex-index l.vertices) ≡ map (located_data (map standing_of l.sources)) l.vertices
