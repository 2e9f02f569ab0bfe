use Rattle.std.proofs.Common.{◌≡◌, ◌∙◌, ℕ, Bool, List, [], Contains, get_or, length, subst, sym, arith}
use Rattle.std.proofs.lemmas.List.{get_or_default}
use Rattle.hpr_terms.proofs.Facts.{in_none}
use Rattle.hpr_build.proofs.ReachingRows.{source_more, source_whole}
use Rattle.hpr_build.proofs.reaching.points_to.Goals as goal

pub loop-at-init : goal.loop-at-init
loop-at-init c = λ p. (
  (λ h. absurd (in_none p (subst (λ (xs : List ℕ). Contains xs p) c.in_ok-row.ensures.items h))),
  (λ (i, l, e, m). absurd (omega (arith, l))),
)

pub loop-at-preserved : goal.loop-at-preserved
loop-at-preserved c =
    let rows = c.args.rows.now in
    let at = c.loop-at.at in
    let row : List Bool = c.index-rows-at.result in
    let is : row ≡ get_or rows at [] = c.index-rows-at.is ∙ get_or_default rows at row [] (omega (arith, c.loop-at-test.true, c.requires)) in
    source_more c.args.points.now rows c.args.user at row c.has.result (λ p. Contains c.loop-at.row.items p) (λ p. Contains c.push_if.new.into.items p)
    is c.has.ensures c.loop-at.invariant c.in_ok-push_if.ensures.exact

pub returns-clause-exact : goal.returns-clause-exact
returns-clause-exact c = λ p.
    let points = c.args.points.now in
    let rows = c.args.rows.now in
    let end : c.loop-at.at ≡ length points = omega (arith, c.loop-at-test.false, c.loop-at.auto.at-end) in
    let same = c.ascending.ensures.same p in (
      (λ h. source_whole points rows c.args.user c.loop-at.at (length points) p end ((c.loop-at.invariant p).0 (same.0 h))),
      (λ s. same.1 ((c.loop-at.invariant p).1 (source_whole points rows c.args.user (length points) c.loop-at.at p (sym end) s))),
    )
