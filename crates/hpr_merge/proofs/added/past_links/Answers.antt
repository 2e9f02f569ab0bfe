use Rattle.std.proofs.Common.{◌∙◌, ◌<◌, arith}
use Rattle.hpr_merge.specs.Added.{MoreEach}
use Rattle.hpr_merge.proofs.Past.{past_more, past_whole, past_closed}
use Rattle.hpr_merge.proofs.added.past_links.Goals as goal

pub returns-then-left-eq0-clause-past : goal.returns-then-left-eq0-clause-past
returns-then-left-eq0-clause-past c = λ i l.
    past_closed (MoreEach c.args.grown.now c.args.own.now c.args.own_links.now) c.args.links.now c.args.to c.args.waiting c.args.firsts.now.items i c.loop-link.link-index c.loop-link.left c.loop-link.firsts.items c.if-left-eq0.true
    (c.loop-link.invariant.past i l)

pub loop-link-preserved : goal.loop-link-preserved
loop-link-preserved c = record {
  count = c.past_link-left.ensures.count ∙ c.loop-link.invariant.count;
  past = λ i l.
      (let few = c.requires.few in
      let below : i < 64 = omega (arith, l, few) in
      past_more (MoreEach c.args.grown.now c.args.own.now c.args.own_links.now) c.args.links.now c.args.to c.args.waiting c.args.firsts.now.items i c.loop-link.link-index c.loop-link.left c.more_word-more.result c.past_link-left.result _
      c.loop-link.firsts.items _ c.loop-link-test.true (c.loop-link.invariant.past i l) (c.more_word-more.ensures i below) (c.past_link-left.ensures.left i below) (c.past_link-left.ensures.kept i)
      (c.past_link-left.ensures.put i (omega (arith, l, c.loop-link.invariant.count))));
}

pub returns-clause-past : goal.returns-clause-past
returns-clause-past c = λ i l.
    past_whole (MoreEach c.args.grown.now c.args.own.now c.args.own_links.now) c.args.links.now c.args.to c.args.waiting c.args.firsts.now.items i c.loop-link.link-index c.loop-link.left c.loop-link.firsts.items c.loop-link-test.false
    (c.loop-link.invariant.past i l)
