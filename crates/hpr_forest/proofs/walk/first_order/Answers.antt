use Rattle.std.proofs.Common.{◌≡◌, ℕ, ◌∙◌, refl, subst, arith, List, true, false, ◌≤◌, ◌<◌}
use Rattle.hpr_forest.proofs.Marked.{marks_push}
use Rattle.hpr_forest.proofs.Leaves.{descend_step}
use Rattle.hpr_forest.proofs.walk.first_order.Goals as goal

pub loop-marks-preserved : goal.loop-marks-preserved
loop-marks-preserved g c =
    let can = g.T.Choices.can c.args.choices.now in
    let n = g.T.Choices.size c.args.choices.now in
    let v : c.deref-in-loop-marks.result.now ≡ c.loop-marks.placed.items = c.deref-in-loop-marks.ensures.value in
    let step = descend_step can n c.loop-marks.placed.items c.push_reserved.new.self.items c.args.placed.now.items c.in-Some.child
    c.requires.choices c.loop-marks.invariant.2 c.push_reserved.ensures.items (omega arith)
    (subst (λ (q : List ℕ). can q c.in-Some.child ≡ true) v c.in-Some.ensures.can)
    (subst (λ (q : List ℕ). (e : ℕ) → 0 ≤ e → e < c.in-Some.child → can q e ≡ false) v c.in-Some.ensures.least)
    c.loop-marks.invariant.5 in
    let may : can c.loop-marks.placed.items c.in-Some.child ≡ true = subst (λ (q : List ℕ). can q c.in-Some.child ≡ true) v c.in-Some.ensures.can in
    let small : c.in-Some.child < n = c.requires.choices.within c.loop-marks.placed.items c.in-Some.child may in (
      c.loop-marks.invariant.0,
      marks_push c.loop-marks.marks.items _ c.loop-marks.placed.items c.push_reserved.new.self.items c.in-Some.child (omega (arith, small, c.loop-marks.invariant.0, c.requires.row)) c.loop-marks.invariant.1 refl c.push_reserved.ensures.items,
      step.0,
      omega (arith, step.1),
      c.push_reserved.ensures.capacity ∙ c.loop-marks.invariant.4,
      step.2,
    )

pub push_reserved-requires : goal.push_reserved-requires
push_reserved-requires g c = omega (arith, c.loop-marks-test.true, c.len.ensures, c.size.ensures, c.loop-marks.invariant.4, c.requires.room)

pub index_mut-requires : goal.index_mut-requires
index_mut-requires g c =
    let small : c.in-Some.child < g.T.Choices.size c.args.choices.now = c.requires.choices.within c.deref-in-loop-marks.result.now c.in-Some.child c.in-Some.ensures.can in
    omega (arith, small, c.loop-marks.invariant.0, c.requires.row)
