use Rattle.std.proofs.Common.{◌≡◌, length}
use Rattle.hpr_forest.proofs.Counted.{AreTurnedBelow}
use Rattle.hpr_forest.proofs.counts.turned.Given as goal

abbrev pub invariant-loop-at : goal.invariant-loop-at
invariant-loop-at l = record {
  count : length l.turned.items ≡ length l.rows;
  turned : AreTurnedBelow l.rows l.at l.turned.items;
}
