use Rattle.hpr_slice.proofs.TargetRows.{AreTargetsTo}
use Rattle.hpr_slice.proofs.targets.targets_of.Given as goal

abbrev pub invariant-loop-to : goal.invariant-loop-to
invariant-loop-to l = AreTargetsTo l.graph l.rows l.to
