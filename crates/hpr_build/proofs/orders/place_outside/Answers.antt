use Rattle.std.proofs.Common.{inl, inr, arith}
use Rattle.std.proofs.lemmas.Bool.{cases_lt}
use Rattle.hpr_build.proofs.Rising.{passed_span}
use Rattle.hpr_build.proofs.orders.place_outside.Goals as goal

pub loop-at-preserved : goal.loop-at-preserved
loop-at-preserved c =
    let at = c.loop-at.at in
    let next = c.place_from-at.result in
    let place = c.place_from-at.ensures in
    let (low, inside) = passed_span c.args.points.now c.requires.points c.args.spans.now at next c.in-Some.end c.loop-at-test.true c.in-Some.ensures.some
    (record { within = place.within; below = place.below; above = place.above }) in
    record {
      from = omega (arith, c.loop-at.invariant.from, low);
      within = place.within;
      passed = λ k from l. elim (cases_lt k at) [ inl before ↦ c.loop-at.invariant.passed k from before | inr here ↦ inside k here l ];
    }

pub loop-at-smaller : goal.loop-at-smaller
loop-at-smaller c =
    let place = c.place_from-at.ensures in
    let (low, inside) = passed_span c.args.points.now c.requires.points c.args.spans.now c.loop-at.at c.place_from-at.result c.in-Some.end c.loop-at-test.true
    c.in-Some.ensures.some
    (record { within = place.within; below = place.below; above = place.above }) in
    omega (arith, low, c.loop-at-test.true)
