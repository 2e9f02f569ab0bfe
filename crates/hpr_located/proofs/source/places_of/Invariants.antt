use Rattle.std.proofs.Common.{◌≡◌, ◌≤◌, drop, length, map, zip}
use Rattle.std.specs.BTreeMap.{is_at}
use Rattle.std.specs.Map.{lookup}
use Rattle.hpr_graph.specs.declared.vertex.Vertex.{Vertex}
use Rattle.hpr_graph.specs.Order.{vertex_cmp}
use Rattle.hpr_located.specs.Sources.{part_vertex}
use Rattle.hpr_located.proofs.source.places_of.Given as goal

abbrev pub invariant-loop-left : goal.invariant-loop-left
invariant-loop-left l = record {
  rows : l.left ≤ length l.rows;
  located : l.left ≤ length l.located;
  places : (v : Vertex) → lookup (is_at (vertex_cmp v)) l.places.entries ≡ lookup (is_at (vertex_cmp v)) (zip (map part_vertex (drop l.left l.rows)) (drop l.left l.located));
}

abbrev pub decreases-loop-left : goal.decreases-loop-left
decreases-loop-left l = l.left
