use Rattle.std.proofs.Common.{◌≡◌, ◌+◌, ℕ, sym, ap, subst, ◌∙◌, List, arith}
use Rattle.std.proofs.lemmas.List.{drop_all}
use Rattle.std.proofs.lemmas.Result.{IfOk-weaker}
use Rattle.hpr_syntax.specs.declared.tree.Stmt.{Stmt}
use Rattle.hpr_syntax.specs.Body.{Body}
use Rattle.hpr_graph.specs.Numbered.{Numbered, HasVertex}
use Rattle.hpr_graph.proofs.Lists.{never}
use Rattle.hpr_prune.specs.Private.PartLeft.{IsPartLeft}
use Rattle.hpr_prune.proofs.Lists.{IsLeftTo, all_parts, branch_stays, left_more, left_same, loop_stays, other_stays}
use Rattle.hpr_prune.proofs.left.+left.Goals as goal
use Rattle.hpr_prune.proofs.left.+left.Goals.{block_left-then-branch+in_ok-part_left+in_ok-push, block_left-else-branch}

abbrev IsLeft : Numbered → Body → List Stmt → ℕ → List Stmt → Type 0
IsLeft g body stmts i left = IsLeftTo (HasVertex g) body stmts i left

pub block_left-loop-stmt-preserved : goal.block_left-loop-stmt-preserved
block_left-loop-stmt-preserved t c = (
  c.loop-stmt.invariant.0,
  elim c.if-branch.branch [
    | block_left-then-branch+in_ok-part_left+in_ok-push w ↦
        subst (IsLeft c.args.slice.now c.args.block.now c.deref-stmt-items.result.now (c.loop-stmt.stmt-index + 1)) (sym (w.in_ok-push.ensures.items) ∙ sym (ap (λ v. v.items) w.stmts-is))
        (left_more (HasVertex c.args.slice.now) c.args.block.now c.deref-stmt-items.result.now c.loop-stmt.stmt-index c.stmt-item.result c.loop-stmt.stmts.items c.loop-stmt-test.true
        c.stmt-item.is c.loop-stmt.invariant.1 _ w.in_ok-part_left.ensures)
    | block_left-else-branch w ↦
        subst (IsLeft c.args.slice.now c.args.block.now c.deref-stmt-items.result.now (c.loop-stmt.stmt-index + 1)) (sym (ap (λ v. v.items) w.stmts-is))
        (left_same (HasVertex c.args.slice.now) c.args.block.now c.deref-stmt-items.result.now c.loop-stmt.stmt-index c.stmt-item.result c.loop-stmt.stmts.items c.loop-stmt-test.true
        c.stmt-item.is c.loop-stmt.invariant.1 (λ has. never _ (c.in_ok-has_part.ensures.1 has) w.if-branch.false))
  ],
)

pub block_left-returns : goal.block_left-returns
block_left-returns t c =
    all_parts (HasVertex c.args.slice.now) c.args.block.now c.deref-stmt-items.result.now c.loop-stmt.stmt-index c.loop-stmt.stmts.items
    (drop_all c.loop-stmt.stmt-index c.deref-stmt-items.result.now (omega (arith, c.loop-stmt-test.false))) c.loop-stmt.invariant.1

pub part_left-returns-in_ok-copy-in-If : goal.part_left-returns-in_ok-copy-in-If
part_left-returns-in_ok-copy-in-If t c =
    let i = c.in-If in
    branch_stays (HasVertex c.args.slice.now) c.args.stmt.now i.tag _ _ _ _ _ _ i.is c.in_ok-copy-in-If.ensures c.requires c.in_ok-yes-in-If.ensures c.in_ok-no-in-If.ensures

pub part_left-returns-in_ok-copy-in-While : goal.part_left-returns-in_ok-copy-in-While
part_left-returns-in_ok-copy-in-While t c =
    let i = c.in-While in
    loop_stays (HasVertex c.args.slice.now) c.args.stmt.now i.tag _ _ _ _ i.is c.in_ok-copy-in-While.ensures c.requires c.in_ok-body-in-While.ensures

pub part_left-returns-in_default : goal.part_left-returns-in_default
part_left-returns-in_default t c =
    let V = HasVertex c.args.slice.now in
    let stays = other_stays V c.args.stmt.now (c.in_default.not-If, c.in_default.not-While) c.requires in
    IfOk-weaker c.copy-in_default.result (λ s. s ≡ c.args.stmt.now) (IsPartLeft V c.args.stmt.now) (λ s is. subst (IsPartLeft V c.args.stmt.now) (sym is) stays) c.copy-in_default.ensures
