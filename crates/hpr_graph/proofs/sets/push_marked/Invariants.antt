use Rattle.hpr_graph.proofs.Placed.{MarkedPlaced}
use Rattle.hpr_graph.proofs.sets.push_marked.Given as goal

abbrev pub invariant-loop-at : goal.invariant-loop-at
invariant-loop-at l = MarkedPlaced l.source l.keep l.fn.target l.target l.numbers.items l.at
