use Rattle.hpr_graph.proofs.Reordered.{FoundPlaced}
use Rattle.hpr_graph.proofs.ordered.numbers_among.Given as goal

abbrev pub invariant-loop-vertex : goal.invariant-loop-vertex
invariant-loop-vertex l = FoundPlaced l.vertices l.ascending l.numbers.items l.vertex-index
