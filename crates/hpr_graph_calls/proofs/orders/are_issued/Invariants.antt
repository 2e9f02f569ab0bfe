use Rattle.std.proofs.Common.{Contains, take}
use Rattle.hpr_graph.specs.declared.vertex.Vertex.{Vertex}
use Rattle.hpr_rebuild.specs.Parts.{IsIssuedPart}
use Rattle.hpr_graph_calls.proofs.orders.are_issued.Given as goal

abbrev pub invariant-loop-vertex : goal.invariant-loop-vertex
invariant-loop-vertex l = (v : Vertex) → Contains (take l.vertex-index l.vertices) v → IsIssuedPart l.issued v
