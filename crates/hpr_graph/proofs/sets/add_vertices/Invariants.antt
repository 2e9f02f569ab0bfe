use Rattle.hpr_graph.proofs.Placed.{AllPlaced}
use Rattle.hpr_graph.proofs.sets.add_vertices.Given as goal

abbrev pub invariant-loop-vertex : goal.invariant-loop-vertex
invariant-loop-vertex l = AllPlaced l.source l.fn.target l.target l.numbers.items l.vertex-index
