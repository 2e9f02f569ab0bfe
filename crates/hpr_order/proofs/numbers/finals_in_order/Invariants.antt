use Rattle.std.proofs.Common.{◌↔◌, ℕ, List, Contains, take}
use Rattle.hpr_graph.specs.declared.vertex.Vertex.TheVariants.{Final}
use Rattle.hpr_order.proofs.numbers.finals_in_order.Given as goal

abbrev pub invariant-loop-vertex : goal.invariant-loop-vertex
invariant-loop-vertex l = (x : List ℕ) → Contains l.names.items x ↔ Contains (take l.vertex-index l.graph.vertices) (Final x)
