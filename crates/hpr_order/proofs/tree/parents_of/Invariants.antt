use Rattle.std.proofs.Common.{◌≡◌, ℕ, Bool, Option, Some, slice_get, vec_len}
use Rattle.hpr_graph.specs.declared.vertex.Vertex.{Vertex}
use Rattle.hpr_order.specs.Regions.{IsRegionAt}
use Rattle.hpr_order.proofs.tree.parents_of.Given as goal

abbrev pub invariant-loop-at : goal.invariant-loop-at
invariant-loop-at l = record {
  count : vec_len l.parents ≡ l.at;
  parents : (at : ℕ) (v : Vertex) (r : Option (ℕ × Bool)) → slice_get l.graph.vertices at ≡ Some v → slice_get l.parents.items at ≡ Some r → IsRegionAt l.graph at v r;
}
