use Rattle.std.proofs.Common.{◌≡◌, take}
use Rattle.hpr_graph.proofs.vertex.copies.Given as goal

abbrev pub invariant-loop-vertex : goal.invariant-loop-vertex
invariant-loop-vertex l = l.copies.items ≡ take l.vertex-index l.vertices
