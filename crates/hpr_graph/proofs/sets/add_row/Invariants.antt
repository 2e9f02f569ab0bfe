use Rattle.std.proofs.Common.{take}
use Rattle.hpr_graph.specs.Moves.{IsKeptElsewhere}
use Rattle.hpr_graph.proofs.Moving.{RowMoved}
use Rattle.hpr_graph.proofs.sets.add_row.Given as goal

abbrev pub invariant-loop-link : goal.invariant-loop-link
invariant-loop-link l = record {
  moved : RowMoved l.source l.fn.target l.numbers l.at (take l.link-index l.link-items) l.target;
  elsewhere : IsKeptElsewhere l.fn.target l.target l.to;
}
