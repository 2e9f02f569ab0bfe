use Rattle.hpr_merge.proofs.Spreads.{spread_then, fewer_left}
use Rattle.hpr_merge.proofs.words.spread.Goals as goal

pub loop-more-smaller : goal.loop-more-smaller
loop-more-smaller c =
    rw c.loop-more-test.true (fewer_left c.loop-more.words.items c.sweep-more.new.words.items c.sweep-more.result c.sweep-more.ensures.fits c.sweep-more.ensures.spread.count c.sweep-more.ensures.rises c.sweep-more.ensures.more)

pub loop-more-preserved : goal.loop-more-preserved
loop-more-preserved c = record {
  spread = spread_then c.args.steps.now c.args.steps.now c.args.steps.now _ _ _ (λ s h. h) (λ s h. h) c.loop-more.invariant.spread c.sweep-more.ensures.spread;
  closed = c.sweep-more.ensures.closed;
}
