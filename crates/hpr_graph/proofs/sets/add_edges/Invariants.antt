use Rattle.hpr_graph.proofs.Moving.{AreKnown, RowsMoved}
use Rattle.hpr_graph.proofs.sets.add_edges.Given as goal

abbrev pub invariant-loop-at : goal.invariant-loop-at
invariant-loop-at l = record {
  moved : RowsMoved l.source l.numbers l.fn.target l.target l.at;
  known : AreKnown l.known l.numbers l.target l.at;
}
