use Rattle.std.proofs.Common.{◌∙◌, arith, ap}
use Rattle.hpr_forest.specs.Counting.{Table, row_of}
use Rattle.hpr_forest.proofs.Counted.{row_of_more}
use Rattle.hpr_forest.proofs.counts.blank_rows.Goals as goal

pub loop-preserved : goal.loop-preserved
loop-preserved c = record {
  count = omega (arith, c.in_ok-push.ensures.len, c.loop.invariant.count);
  blank = λ k. ap (λ (rows : Table). row_of rows k) c.in_ok-push.ensures.items ∙ row_of_more c.loop.rows.items c.new.result k c.loop.invariant.blank c.new.ensures.items;
}
