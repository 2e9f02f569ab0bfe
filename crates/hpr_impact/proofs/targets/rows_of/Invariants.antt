use Rattle.std.proofs.Common.{◌≡◌, length, take}
use Rattle.hpr_impact.proofs.Rows.{AreRowsOf}
use Rattle.hpr_impact.proofs.targets.rows_of.Given as goal

abbrev pub invariant-loop-step : goal.invariant-loop-step
invariant-loop-step l = record {
  count : length l.rows ≡ l.count;
  rows : AreRowsOf (take l.step-index l.steps) l.rows;
}
