use Rattle.std.proofs.Common.{rules, ◌≡◌, ◌<◌, ◌≤◌, ◌+◌, refl, ap, sym, ◌∙◌, subst, arith, length, get_or, take, add-one, true, false}
use Rattle.std.proofs.lemmas.List.{get_or_default, take_all}
use Rattle.std.proofs.lemmas.Result.{on_err_weaker}
use Rattle.hpr_syntax.specs.declared.tree.Stmt.TheVariants.{If}
use Rattle.hpr_syntax.specs.Body.{done}
use Rattle.hpr_syntax.specs.BodyOf.{before, body_of}
use Rattle.hpr_syntax.specs.Parts.{tag_of, same_tag}
use Rattle.hpr_edit.specs.Changes.{at_part}
use Rattle.hpr_edit.specs.InPlace.{times, one_if, done_by, in_part}
use Rattle.hpr_edit.proofs.Around.{absent, times_head}
use Rattle.hpr_edit.proofs.Lists.{at_it, in_yes, Visit, visit, went_in, went_by}
use Rattle.hpr_edit.proofs.Falls.{falls_at}
use Rattle.hpr_edit.proofs.change.+change.Goals as goal

pub change_part-loop-at-init : goal.change_part-loop-at-init
change_part-loop-at-init t c = (c.block.view_is, c.len-at-end.ensures, refl)

pub change_part-index-requires : goal.change_part-index-requires
change_part-index-requires t c = grind (arith, c.loop-at-test.true, c.loop-at.invariant.1)

pub change_part-act-requires : goal.change_part-act-requires
change_part-act-requires t c = grind (arith, c.loop-at-test.true, c.loop-at.invariant.1)

pub change_part-returns-then-eq-clause-changed : goal.change_part-returns-then-eq-clause-changed
change_part-returns-then-eq-clause-changed t c =
    let xs = c.loop-at.block-inside.stmts.items in
    let d = c.index.result.now in
    let h : c.loop-at.at < length xs = grind (arith, c.loop-at-test.true, c.loop-at.invariant.1) in
    let v : d ≡ get_or xs c.loop-at.at d = c.index.ensures in
    let w : same_tag (tag_of (get_or xs c.loop-at.at d)) c.args.tag ≡ true =
    ap (λ s. same_tag (tag_of s) c.args.tag) (sym v) ∙ ap (λ g. same_tag g c.args.tag) (sym c.tag.ensures) ∙ sym c.eq.ensures ∙ c.if-eq.true in
    c.in_ok-act.ensures.changed
    ∙ at_it c.args.tag (done_by c.args.change) c.loop-at.at xs d h c.loop-at.invariant.2 w
    ∙ ap (at_part c.args.tag (done_by c.args.change)) c.loop-at.invariant.0

pub change_part-returns-then-eq-clause-found : goal.change_part-returns-then-eq-clause-found
change_part-returns-then-eq-clause-found t c =
    let xs = c.loop-at.block-inside.stmts.items in
    let d = c.index.result.now in
    let h : c.loop-at.at < length xs = grind (arith, c.loop-at-test.true, c.loop-at.invariant.1) in
    let k : Visit c.args.tag c.loop-at.at xs c.args.block.now d = visit c.args.tag c.loop-at.at xs c.args.block.now d h c.loop-at.invariant.2 c.loop-at.invariant.0 c.requires.once c.index.ensures in
    let w : same_tag (tag_of d) c.args.tag ≡ true = ap (λ g. same_tag g c.args.tag) (sym c.tag.ensures) ∙ sym c.eq.ensures ∙ c.if-eq.true in
    let one : 1 ≤ times c.args.tag (before d done) = times_head c.args.tag d done w in
    let le : times c.args.tag c.args.block.now ≤ 1 = c.requires.once in
    let e : times c.args.tag (body_of xs) ≡ times c.args.tag c.args.block.now = ap (times c.args.tag) c.loop-at.invariant.0 in
    omega (arith, k.here, one, le, e)

pub change_part-index_mut-requires : goal.change_part-index_mut-requires
change_part-index_mut-requires t c = grind (arith, c.loop-at-test.true, c.loop-at.invariant.1)

pub change_part-change_within-requires : goal.change_part-change_within-requires
change_part-change_within-requires t c =
    let xs = c.loop-at.block-inside.stmts.items in
    let d = c.index_mut.result.now in
    let h : c.loop-at.at < length xs = grind (arith, c.loop-at-test.true, c.loop-at.invariant.1) in
    let v : d ≡ get_or xs c.loop-at.at d = c.index_mut.ensures.value in
    let k : Visit c.args.tag c.loop-at.at xs c.args.block.now d = visit c.args.tag c.loop-at.at xs c.args.block.now d h c.loop-at.invariant.2 c.loop-at.invariant.0 c.requires.once v in
    let w = falls_at xs c.loop-at.at d c.args.block.now c.loop-at.invariant.0 h v in
    (search (rules, w), k.once)

pub change_part-returns-then-branch-clause-changed :
    goal.change_part-returns-then-branch-clause-changed
change_part-returns-then-branch-clause-changed t c =
    let xs = c.loop-at.block-inside.stmts.items in
    let d = c.index_mut.result.now in
    let h : c.loop-at.at < length xs = grind (arith, c.loop-at-test.true, c.loop-at.invariant.1) in
    let v : d ≡ get_or xs c.loop-at.at d = c.index_mut.ensures.value in
    let k : Visit c.args.tag c.loop-at.at xs c.args.block.now d = visit c.args.tag c.loop-at.at xs c.args.block.now d h c.loop-at.invariant.2 c.loop-at.invariant.0 c.requires.once v in
    let i : c.index.result.now ≡ d = c.index.ensures ∙ get_or_default xs c.loop-at.at c.index.result.now d h ∙ sym v in
    let other : same_tag (tag_of d) c.args.tag ≡ false =
    ap (λ s. same_tag (tag_of s) c.args.tag) (sym i) ∙ ap (λ g. same_tag g c.args.tag) (sym c.tag.ensures) ∙ sym c.eq.ensures ∙ c.if-eq.false in
    let found : one_if (same_tag (tag_of d) c.args.tag) + 1 ≡ times c.args.tag (before d done) =
    ap (λ b. one_if (same_tag (tag_of d) c.args.tag) + one_if b) (sym c.if-branch.true) ∙ c.in_ok-change_within.ensures.found in
    went_in c.args.tag (done_by c.args.change) c.loop-at.at xs c.args.block.now d c.change_within.new.stmt k c.loop-at.invariant.0 c.requires.once v other found c.in_ok-change_within.ensures.changed

pub change_part-returns-then-branch-clause-found :
    goal.change_part-returns-then-branch-clause-found
change_part-returns-then-branch-clause-found t c =
    let xs = c.loop-at.block-inside.stmts.items in
    let d = c.index_mut.result.now in
    let h : c.loop-at.at < length xs = grind (arith, c.loop-at-test.true, c.loop-at.invariant.1) in
    let v : d ≡ get_or xs c.loop-at.at d = c.index_mut.ensures.value in
    let k : Visit c.args.tag c.loop-at.at xs c.args.block.now d = visit c.args.tag c.loop-at.at xs c.args.block.now d h c.loop-at.invariant.2 c.loop-at.invariant.0 c.requires.once v in
    let found : one_if (same_tag (tag_of d) c.args.tag) + 1 ≡ times c.args.tag (before d done) =
    ap (λ b. one_if (same_tag (tag_of d) c.args.tag) + one_if b) (sym c.if-branch.true) ∙ c.in_ok-change_within.ensures.found in
    let le : times c.args.tag c.args.block.now ≤ 1 = c.requires.once in
    let e : times c.args.tag (body_of xs) ≡ times c.args.tag c.args.block.now = ap (times c.args.tag) c.loop-at.invariant.0 in
    omega (arith, k.here, found, le, e)

pub change_part-loop-at-preserved : goal.change_part-loop-at-preserved
change_part-loop-at-preserved t c =
    let xs = c.loop-at.block-inside.stmts.items in
    let d = c.index_mut.result.now in
    let h : c.loop-at.at < length xs = grind (arith, c.loop-at-test.true, c.loop-at.invariant.1) in
    let v : d ≡ get_or xs c.loop-at.at d = c.index_mut.ensures.value in
    let k : Visit c.args.tag c.loop-at.at xs c.args.block.now d = visit c.args.tag c.loop-at.at xs c.args.block.now d h c.loop-at.invariant.2 c.loop-at.invariant.0 c.requires.once v in
    let i : c.index.result.now ≡ d = c.index.ensures ∙ get_or_default xs c.loop-at.at c.index.result.now d h ∙ sym v in
    let other : same_tag (tag_of d) c.args.tag ≡ false =
    ap (λ s. same_tag (tag_of s) c.args.tag) (sym i) ∙ ap (λ g. same_tag g c.args.tag) (sym c.tag.ensures) ∙ sym c.eq.ensures ∙ c.if-eq.false in
    let found : one_if (same_tag (tag_of d) c.args.tag) + 0 ≡ times c.args.tag (before d done) =
    ap (λ b. one_if (same_tag (tag_of d) c.args.tag) + one_if b) (sym c.if-branch.false) ∙ c.in_ok-change_within.ensures.found in
    let r = went_by c.args.tag (done_by c.args.change) c.loop-at.at xs c.args.block.now d c.change_within.new.stmt k v other found c.in_ok-change_within.ensures.changed in (
      ap body_of r.0 ∙ c.loop-at.invariant.0,
      c.loop-at.invariant.1,
      ap (λ ys. times c.args.tag (body_of (take (c.loop-at.at + 1) ys))) r.0 ∙ (rw add-one r.1),
    )

pub change_part-returns-clause-changed : goal.change_part-returns-clause-changed
change_part-returns-clause-changed t c =
    let xs = c.loop-at.block-inside.stmts.items in
    let all : take c.loop-at.at xs ≡ xs = take_all c.loop-at.at xs (grind (arith, c.loop-at-test.false, c.loop-at.invariant.1)) in
    let z : times c.args.tag (body_of xs) ≡ 0 = ap (λ ys. times c.args.tag (body_of ys)) (sym all) ∙ c.loop-at.invariant.2 in
    c.loop-at.invariant.0 ∙ sym (absent c.args.tag (done_by c.args.change) c.args.block.now (ap (times c.args.tag) (sym c.loop-at.invariant.0) ∙ z))

pub change_part-returns-clause-found : goal.change_part-returns-clause-found
change_part-returns-clause-found t c =
    let xs = c.loop-at.block-inside.stmts.items in
    let all : take c.loop-at.at xs ≡ xs = take_all c.loop-at.at xs (grind (arith, c.loop-at-test.false, c.loop-at.invariant.1)) in
    sym (ap (times c.args.tag) (sym c.loop-at.invariant.0) ∙ ap (λ ys. times c.args.tag (body_of ys)) (sym all) ∙ c.loop-at.invariant.2)

pub change_within-returns-then-branch-clause-changed :
    goal.change_within-returns-then-branch-clause-changed
change_within-returns-then-branch-clause-changed t c =
    let i = c.in-If in
    let le : times c.args.tag (before (If i.field-0 i.field-1 i.yes i.no) done) ≤ 1 = subst (λ s. times c.args.tag (before s done) ≤ 1) i.is c.requires.once in
    let one : 1 ≡ times c.args.tag i.yes = ap one_if (sym c.if-branch.true) ∙ c.in_ok-change_part-in-If.ensures.found in
    in_yes c.args.tag (done_by c.args.change) i.field-0 i.field-1 i.yes i.no c.change_part.new.block le one c.in_ok-change_part-in-If.ensures.changed
    ∙ ap (in_part c.args.tag (done_by c.args.change)) (sym i.is)

pub change_within-returns-else-branch-clause-unchanged :
    goal.change_within-returns-else-branch-clause-unchanged
change_within-returns-else-branch-clause-unchanged t c = λ whole.
    let i = c.in-If in
    let none : times c.args.tag i.yes ≡ 0 = sym c.in_ok-change_part-in-If.ensures.found ∙ ap one_if c.if-branch.false in
    let same : c.change_part.new.block ≡ i.yes = c.in_ok-change_part-in-If.ensures.changed ∙ absent c.args.tag (done_by c.args.change) i.yes none in
    on_err_weaker c.change_part-in-If.result
    (λ e. ap (λ b. If i.field-0 i.field-1 b c.change_part-in-If.new.block) same ∙ ap (If i.field-0 i.field-1 i.yes) e ∙ sym i.is)
    (c.change_part-in-If.ensures.unchanged whole)
