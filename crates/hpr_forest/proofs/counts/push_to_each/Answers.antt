use Rattle.std.proofs.Common.{◌∙◌}
use Rattle.hpr_forest.proofs.Counted.{each_more}
use Rattle.hpr_forest.proofs.counts.push_to_each.Goals as goal

pub loop-at-preserved : goal.loop-at-preserved
loop-at-preserved c = record {
  count = c.in_ok-push_at.ensures.count ∙ c.loop-at.invariant.count;
  rows = λ k n.
      each_more c.loop-at.rows.items c.push_at.new.rows.items c.args.each.now c.loop-at.at-index c.args.number k n _ c.loop-at-test.true c.in_ok-push_at.ensures.here c.in_ok-push_at.ensures.others
      (c.loop-at.invariant.rows k n);
}
