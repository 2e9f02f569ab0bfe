use Rattle.std.proofs.Common.{ℕ, min, sym, ap, ◌∙◌}
use Rattle.hpr_tagging.proofs.Steps.{place_before, place_inside, place_behind, place_over}
use Rattle.hpr_tagging.proofs.texts.place_back.Goals as goal

pub returns-then-left-unchanged : goal.returns-then-left-unchanged
returns-then-left-unchanged c =
    let l = c.loop-change in
    let e = place_before c.args.author l.at c.args.changes.now l.change-index _ l.left _ c.loop-change-test.true c.saturating_sub-unchanged.ensures
    c.if-left-unchanged.true in
    c.within.ensures ∙ ap (λ (k : ℕ). min k c.args.limit) (sym e ∙ l.invariant)

pub returns-then-left-inside : goal.returns-then-left-inside
returns-then-left-inside c =
    let l = c.loop-change in
    let e = place_inside c.args.author l.at c.args.changes.now l.change-index _ l.left _ _ c.loop-change-test.true c.saturating_sub-unchanged.ensures
    (c.as_str-inside.ensures.value ∙ c.in_ok-text.ensures) c.if-left-unchanged.false c.if-left-inside.true in
    c.min.ensures ∙ ap (λ (k : ℕ). min k c.args.limit) (sym e ∙ l.invariant)

pub loop-change-preserved : goal.loop-change-preserved
loop-change-preserved c =
    let l = c.loop-change in
    place_behind c.args.author l.at c.args.changes.now l.change-index _ l.left _ _ c.loop-change-test.true c.saturating_sub-unchanged.ensures
    (c.as_str-inside.ensures.value ∙ c.in_ok-text.ensures) c.if-left-unchanged.false c.if-left-inside.false
    ∙ l.invariant

pub returns : goal.returns
returns c =
    let l = c.loop-change in
    let e = place_over c.args.author l.at c.args.changes.now l.change-index l.left c.loop-change-test.false in
    c.within-2.ensures ∙ ap (λ (k : ℕ). min k c.args.limit) (sym e ∙ l.invariant)
