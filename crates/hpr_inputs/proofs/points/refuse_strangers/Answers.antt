use Rattle.std.proofs.Common.{Contains, map, subst, sym}
use Rattle.hpr_inputs.specs.Points.{point_text}
use Rattle.hpr_inputs.proofs.PointLemmas.{fails, judged_all, judged_more, stranger_at}
use Rattle.hpr_inputs.proofs.points.refuse_strangers.Goals as goal

pub returns-then-not-has : goal.returns-then-not-has
returns-then-not-has c =
    let P = Contains (map point_text c.args.vertices.now) in
    let absent = fails c.has.result _ (c.has.ensures _ c.in_ok-points.ensures) c.if-not-has.true in (
      _,
      stranger_at (λ w. w.now) c.args.words.now P c.loop-word.word-index _ c.loop-word-test.true c.loop-word.invariant (λ h. absent (subst P (sym c.in_ok-text.ensures.ok) h)),
      c.in_ok-message.ensures,
    )

pub loop-word-preserved : goal.loop-word-preserved
loop-word-preserved c =
    let P = Contains (map point_text c.args.vertices.now) in
    let there = (c.has.ensures _ c.in_ok-points.ensures).0 c.if-not-has.false in
    judged_more (λ w. w.now) c.args.words.now P c.loop-word.word-index _ c.loop-word-test.true c.loop-word.invariant (subst P c.in_ok-text.ensures.ok there)

pub returns : goal.returns
returns c = judged_all (λ w. w.now) c.args.words.now (Contains (map point_text c.args.vertices.now)) c.loop-word.word-index c.loop-word-test.false c.loop-word.invariant
