use Rattle.std.proofs.Common.{◌≡◌, ℕ, get_or, sym, ◌∙◌, subst, arith, below_more}
use Rattle.std.proofs.lemmas.List.{get_or_default}
use Rattle.hpr_search.specs.Marks.{IsMarked}
use Rattle.hpr_reach.proofs.bits.BitRow.has_any.Goals as goal

pub returns-then-has : goal.returns-then-has
returns-then-has c = (
  (λ t.
      let ps = c.args.points.now in
      let k = c.loop-point.point-index in
      (get_or ps k 0, (k, c.loop-point-test.true, sym (get_or_default ps k 0 (get_or ps k 0) c.loop-point-test.true)), c.has.ensures.0 c.if-has.true)),
  (λ b. cc),
)

pub loop-point-preserved : goal.loop-point-preserved
loop-point-preserved c = below_more _ _ c.loop-point.invariant (λ m. let t = c.has.ensures.1 m in absurd (cc (t, c.if-has.false)))

pub returns : goal.returns
returns c = (
  (λ t. absurd cc),
  (λ (u, at, m).
      let ps = c.args.points.now in
      let is : u ≡ get_or ps at.0 0 = sym at.2 ∙ get_or_default ps at.0 u 0 at.1 in
      absurd (c.loop-point.invariant at.0 (omega (arith, at.1, c.loop-point-test.false)) (subst (λ (p : ℕ). IsMarked c.args.self.now p) is m))),
)
