use Rattle.hpr_forest.proofs.Running.{runs_blank}
use Rattle.hpr_forest.proofs.sparse.SparseRow.blank.Goals as goal

pub invariant_of-result : goal.invariant_of-result
invariant_of-result c = runs_blank c.in_ok-marks.marks.items c.in_ok-counts.counts.items c.args.size c.in_ok-marks.ensures.blank c.in_ok-counts.ensures
