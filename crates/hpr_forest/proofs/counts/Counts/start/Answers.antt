use Rattle.hpr_forest.proofs.Counted.{counts_start}
use Rattle.hpr_forest.proofs.counts.Counts.start.Goals as goal

pub returns : goal.returns
returns c = counts_start c.args.rows.now _ c.in_ok-left.ensures.count c.in_ok-left.ensures.lengths c.in_ok-left.ensures.room c.in_ok-rows_with.ensures.count c.in_ok-rows_with.ensures.turned
