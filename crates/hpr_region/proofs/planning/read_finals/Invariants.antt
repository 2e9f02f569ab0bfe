use Rattle.std.proofs.Common.{◌≡◌, ◌<◌, ℕ, List, Some, slice_get}
use Rattle.hpr_terms.specs.Names.{IsVariable}
use Rattle.hpr_graph.specs.declared.vertex.Vertex.TheVariants.{Final}
use Rattle.hpr_region.proofs.planning.read_finals.Given as goal

abbrev pub invariant-loop-vertex : goal.invariant-loop-vertex
invariant-loop-vertex l = (k : ℕ) (x : List ℕ) → k < l.vertex-index → slice_get l.vertices k ≡ Some (Final x) → IsVariable x
