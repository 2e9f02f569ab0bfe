use Rattle.std.proofs.Common.{Contains}
use Rattle.hpr_order.proofs.Linking.{links_undirected, links_unplaced, links_placed, links_whole}
use Rattle.hpr_order.proofs.numbers.add_pairs.Goals as goal

pub loop-link-preserved-then-not-directs : goal.loop-link-preserved-then-not-directs
loop-link-preserved-then-not-directs c =
    links_undirected (λ s t. Contains c.args.pairs.now.items (s, t)) c.args.item c.args.places.now c.args.links.now c.loop-link.link-index _ c.loop-link-test.true
    c.directs.result c.loop-link.pairs.items c.directs.ensures c.if-not-directs.true c.loop-link.invariant

pub loop-link-preserved-in_default : goal.loop-link-preserved-in_default
loop-link-preserved-in_default c =
    links_unplaced (λ s t. Contains c.args.pairs.now.items (s, t)) c.args.item c.args.places.now c.args.links.now c.loop-link.link-index _ c.loop-link-test.true
    c.number_at.result c.loop-link.pairs.items c.number_at.ensures c.in_default.is c.loop-link.invariant

pub loop-link-preserved : goal.loop-link-preserved
loop-link-preserved c =
    links_placed (λ s t. Contains c.args.pairs.now.items (s, t)) c.args.item c.args.places.now c.args.links.now c.loop-link.link-index _ c.loop-link-test.true
    c.directs.result c.number_at.result c.in-Some.source c.loop-link.pairs.items c.push.new.self.items c.directs.ensures c.if-not-directs.false c.number_at.ensures c.in-Some.is
    c.in_ok-push.ensures.items c.loop-link.invariant

pub returns : goal.returns
returns c =
    links_whole (λ s t. Contains c.args.pairs.now.items (s, t)) c.args.item c.args.places.now c.args.links.now c.loop-link.link-index c.loop-link.pairs.items c.loop-link-test.false c.loop-link.invariant
