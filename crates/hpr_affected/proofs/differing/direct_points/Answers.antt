use Rattle.std.proofs.Common.{ap, length, arith}
use Rattle.hpr_affected.proofs.DirectTests.{direct_test, direct_read}
use Rattle.hpr_affected.proofs.PointLists.{before_none, before_more, before_all}
use Rattle.hpr_affected.proofs.differing.direct_points.Goals as goal

pub loop-at-init : goal.loop-at-init
loop-at-init c = before_none _ _ _ c.new-points.ensures.items

pub loop-at-preserved : goal.loop-at-preserved
loop-at-preserved c =
    let there = c.args.there.now in
    let back = c.args.back.now in
    before_more _ _ c.loop-at.points.items _ c.loop-at.at c.is_direct-test.result c.loop-at.invariant
    (λ v at_v.
    direct_test c.args.graph.now c.args.other.now c.vertices-at-end.ensures.numbered c.vertices-others.ensures.numbered there.numbers.items back.numbers.items there.marks.items back.marks.items
    c.requires.there c.requires.back c.loop-at.at v at_v c.is_direct-test.result
    (direct_read there.numbers.items _ there.marks.items _ back.marks.items _ c.loop-at.at c.is_direct-test.result c.deref.ensures.value c.deref-in-loop-at.ensures.value
    c.deref-in-loop-at-2.ensures.value c.is_direct-test.ensures))
    c.in_ok-push_if.ensures

pub returns : goal.returns
returns c =
    before_all _ _ _ c.loop-at.at c.loop-at.invariant (omega (arith, c.loop-at-test.false, c.loop-at.auto.at-end, ap length c.vertices-at-end.ensures.vertices))
