use Rattle.hpr_affected.proofs.NumberRows.{AreNumbersTo}
use Rattle.hpr_affected.proofs.lacking.numbers_in.Given as goal

abbrev pub invariant-loop-vertex : goal.invariant-loop-vertex
invariant-loop-vertex l = AreNumbersTo l.graph l.other l.numbers.items l.vertex-index
