use Rattle.std.proofs.Common.{◌≡◌, ℕ, ◌+◌, ◌-◌, ◌<◌, ◌∙◌, ap, arith, sym, FitsSigned, w64, rules, true, false, drop_of_length-le, le_refl, le_trans}
use Rattle.std.proofs.lemmas.Int.{to_z-of_z}
use Rattle.std.proofs.lemmas.Result.{err_from_is_err_and}
use Rattle.hpr_syntax.specs.BodyOf.{body_of}
use Rattle.hpr_syntax.specs.Value.{is_true}
use Rattle.hpr_syntax.specs.Parts.{tag_of, expr_of}
use Rattle.hpr_run.specs.Observed.{observing, walk, walk_turns}
use Rattle.hpr_run.proofs.Observed.{branch_goes, branch_stopped, done_in, failed_in, loop_goes, turn_done, turn_failed, turn_last, turn_stopped}
use Rattle.hpr_run.proofs.interpreter.+walk.Goals as goal

pub walk_block-returns-in_err-walk_stmt-clause-did : goal.walk_block-returns-in_err-walk_stmt-clause-did
walk_block-returns-in_err-walk_stmt-clause-did g t c =
    let w = observing g.O.Observer.in_turn g.O.Observer.told g.O.Observer.assigned in
    let p = err_from_is_err_and c.from_residual.result c.from_residual.ensures.1 in
    rw (p.1, p.2) (failed_in w c.deref-stmt-items.result.now c.loop-stmt.stmt-index c.stmt-item.result c.loop-stmt-test.true c.stmt-item.is _ _ _ _ _ c.loop-stmt.invariant.1 _ _ _ _ c.in_err-walk_stmt.ensures.did)

pub walk_loop-loop-turn-preserved : goal.walk_loop-loop-turn-preserved
walk_loop-loop-turn-preserved g t c =
    let w = observing g.O.Observer.in_turn g.O.Observer.told g.O.Observer.assigned in
    let a = c.in_ok-take_step.ensures.stepped in
    let fits : FitsSigned w64 c.in_ok-take_step.field-0 = search rules in
    let holds : is_true c.in_ok-take_step.field-0 ≡ true = rw to_z-of_z at (sym c.is_true.ensures ∙ c.if-not-is_true.false) in
    let below : c.loop-turn.turn < c.args.left.now + 1 = omega (arith, c.loop-turn-test.true) in
    let more = turn_done w c.args.stmt.now (tag_of c.args.stmt.now) (expr_of c.args.stmt.now) c.args.body.now c.requires c.args.around.now (c.args.left.now + 1) c.loop-turn.turn below _ c.loop-turn.observer c.loop-turn.state c.loop-turn.left
    c.loop-turn.invariant.0 c.in_ok-turns.turns c.in_ok-turns.ensures c.in_ok-take_step.field-0 _ _ a holds _ _ _ c.in_ok-walk_block.ensures.did in
    (more, omega (arith, c.loop-turn.invariant.1, a.0, c.in_ok-walk_block.ensures.fewer))

pub walk_loop-returns-in_err-take_step-clause-did : goal.walk_loop-returns-in_err-take_step-clause-did
walk_loop-returns-in_err-take_step-clause-did g t c =
    let w = observing g.O.Observer.in_turn g.O.Observer.told g.O.Observer.assigned in
    let p = err_from_is_err_and c.from_residual-in_err-take_step.result c.from_residual-in_err-take_step.ensures.1 in
    let below : c.loop-turn.turn < c.args.left.now + 1 = omega (arith, c.loop-turn-test.true) in
    rw (p.1, p.2) (turn_stopped w c.args.stmt.now (tag_of c.args.stmt.now) (expr_of c.args.stmt.now) c.args.body.now c.requires c.args.around.now (c.args.left.now + 1) c.loop-turn.turn below _ c.loop-turn.observer c.loop-turn.state c.loop-turn.left
    c.loop-turn.invariant.0 c.in_ok-turns.turns c.in_ok-turns.ensures _ _ _ c.in_err-take_step.ensures.stepped)

pub walk_loop-returns-in_err-walk_block-clause-did : goal.walk_loop-returns-in_err-walk_block-clause-did
walk_loop-returns-in_err-walk_block-clause-did g t c =
    let w = observing g.O.Observer.in_turn g.O.Observer.told g.O.Observer.assigned in
    let a = c.in_ok-take_step.ensures.stepped in
    let p = err_from_is_err_and c.from_residual-in_err-walk_block.result c.from_residual-in_err-walk_block.ensures.1 in
    let fits : FitsSigned w64 c.in_ok-take_step.field-0 = search rules in
    let holds : is_true c.in_ok-take_step.field-0 ≡ true = rw to_z-of_z at (sym c.is_true.ensures ∙ c.if-not-is_true.false) in
    let below : c.loop-turn.turn < c.args.left.now + 1 = omega (arith, c.loop-turn-test.true) in
    rw (p.1, p.2) (turn_failed w c.args.stmt.now (tag_of c.args.stmt.now) (expr_of c.args.stmt.now) c.args.body.now c.requires c.args.around.now (c.args.left.now + 1) c.loop-turn.turn below _ c.loop-turn.observer c.loop-turn.state c.loop-turn.left
    c.loop-turn.invariant.0 c.in_ok-turns.turns c.in_ok-turns.ensures c.in_ok-take_step.field-0 _ _ a holds _ _ _ _ c.in_err-walk_block.ensures.did)

pub walk_loop-returns-then-not-is_true-clause-did : goal.walk_loop-returns-then-not-is_true-clause-did
walk_loop-returns-then-not-is_true-clause-did g t c =
    let w = observing g.O.Observer.in_turn g.O.Observer.told g.O.Observer.assigned in
    let a = c.in_ok-take_step.ensures.stepped in
    let fits : FitsSigned w64 c.in_ok-take_step.field-0 = search rules in
    let off : is_true c.in_ok-take_step.field-0 ≡ false = rw to_z-of_z at (sym c.is_true.ensures ∙ c.if-not-is_true.true) in
    let below : c.loop-turn.turn < c.args.left.now + 1 = omega (arith, c.loop-turn-test.true) in
    turn_last w c.args.stmt.now (tag_of c.args.stmt.now) (expr_of c.args.stmt.now) c.args.body.now c.requires c.args.around.now (c.args.left.now + 1) c.loop-turn.turn below _ c.loop-turn.observer c.loop-turn.state c.loop-turn.left
    c.loop-turn.invariant.0 c.in_ok-turns.turns c.in_ok-turns.ensures c.in_ok-take_step.field-0 _ _ a off

pub walk_loop-returns-clause-did : goal.walk_loop-returns-clause-did
walk_loop-returns-clause-did g t c =
    let w = observing g.O.Observer.in_turn g.O.Observer.told g.O.Observer.assigned in
    let none : c.args.left.now + 1 - c.loop-turn.turn ≡ 0 = omega (arith, c.loop-turn-test.false) in
    c.loop-turn.invariant.0 ∙ ap (λ (n : ℕ). walk_turns w c.loop-turn.turn n (tag_of c.args.stmt.now) (expr_of c.args.stmt.now) (walk w c.args.body.now) c.args.around.now c.loop-turn.observer c.loop-turn.state c.loop-turn.left) none

pub walk_stmt-returns-in_err-take_step-in-If-clause-did : goal.walk_stmt-returns-in_err-take_step-in-If-clause-did
walk_stmt-returns-in_err-take_step-in-If-clause-did g t c =
    let w = observing g.O.Observer.in_turn g.O.Observer.told g.O.Observer.assigned in
    let p = err_from_is_err_and c.from_residual.result c.from_residual.ensures.1 in
    rw (p.1, p.2) (branch_stopped w c.args.stmt.now c.in-If.field-0 c.in-If.field-1 c.in-If.yes c.in-If.no c.in-If.is c.args.around.now c.args.observer.now c.args.state.now c.args.left.now
    _ _ _ c.in_err-take_step-in-If.ensures.stepped)

pub walk_stmt-returns-then-is_true-clause-did : goal.walk_stmt-returns-then-is_true-clause-did
walk_stmt-returns-then-is_true-clause-did g t c =
    let w = observing g.O.Observer.in_turn g.O.Observer.told g.O.Observer.assigned in
    let fits : FitsSigned w64 c.in_ok-take_step-in-If.field-0 = search rules in
    let test : is_true c.in_ok-take_step-in-If.field-0 ≡ true = rw to_z-of_z at (sym c.is_true.ensures ∙ c.if-is_true.true) in
    branch_goes w c.args.stmt.now c.in-If.field-0 c.in-If.field-1 c.in-If.yes c.in-If.no c.in-If.is c.args.around.now c.args.observer.now c.args.state.now c.args.left.now
    c.in_ok-take_step-in-If.field-0 _ _ c.in_ok-take_step-in-If.ensures.stepped true test c.walk_block.result _ _ _ c.walk_block.ensures.did

pub walk_stmt-returns-else-is_true-clause-did : goal.walk_stmt-returns-else-is_true-clause-did
walk_stmt-returns-else-is_true-clause-did g t c =
    let w = observing g.O.Observer.in_turn g.O.Observer.told g.O.Observer.assigned in
    let fits : FitsSigned w64 c.in_ok-take_step-in-If.field-0 = search rules in
    let test : is_true c.in_ok-take_step-in-If.field-0 ≡ false = rw to_z-of_z at (sym c.is_true.ensures ∙ c.if-is_true.false) in
    branch_goes w c.args.stmt.now c.in-If.field-0 c.in-If.field-1 c.in-If.yes c.in-If.no c.in-If.is c.args.around.now c.args.observer.now c.args.state.now c.args.left.now
    c.in_ok-take_step-in-If.field-0 _ _ c.in_ok-take_step-in-If.ensures.stepped false test c.walk_block-else-is_true.result _ _ _ c.walk_block-else-is_true.ensures.did

pub walk_block-loop-stmt-init : goal.walk_block-loop-stmt-init
walk_block-loop-stmt-init g t c =
    let w = observing g.O.Observer.in_turn g.O.Observer.told g.O.Observer.assigned in
    let view = ap body_of c.deref-stmt-items.ensures.value ∙ c.block.view_is in
    (view, ap (λ b. walk w b c.args.around.now c.args.observer.now c.args.state.now c.args.left.now) (sym view), le_refl c.args.left.now)

pub walk_block-loop-stmt-preserved : goal.walk_block-loop-stmt-preserved
walk_block-loop-stmt-preserved g t c =
    let w = observing g.O.Observer.in_turn g.O.Observer.told g.O.Observer.assigned in (
      c.loop-stmt.invariant.0,
      done_in w c.deref-stmt-items.result.now c.loop-stmt.stmt-index c.stmt-item.result c.loop-stmt-test.true c.stmt-item.is _ _ _ _ _ c.loop-stmt.invariant.1 _ _ _
          c.in_ok-walk_stmt.ensures.did,
      le_trans c.walk_stmt.ensures.fewer c.loop-stmt.invariant.2,
    )

pub walk_block-returns-clause-did : goal.walk_block-returns-clause-did
walk_block-returns-clause-did g t c =
    let w = observing g.O.Observer.in_turn g.O.Observer.told g.O.Observer.assigned in
    let over = drop_of_length-le c.deref-stmt-items.result.now c.loop-stmt-test.false in
    c.loop-stmt.invariant.1 ∙ ap (λ l. walk w (body_of l) c.args.around.now c.loop-stmt.observer c.loop-stmt.state c.loop-stmt.left) over

pub walk_loop-loop-turn-init : goal.walk_loop-loop-turn-init
walk_loop-loop-turn-init g t c =
    let w = observing g.O.Observer.in_turn g.O.Observer.told g.O.Observer.assigned in
    let all : c.args.left.now + 1 ≡ c.args.left.now + 1 - 0 = omega arith in (
      ap (λ (n : ℕ). walk_turns w 0 n (tag_of c.args.stmt.now) (expr_of c.args.stmt.now) (walk w c.args.body.now) c.args.around.now c.args.observer.now c.args.state.now c.args.left.now) all,
      le_refl c.args.left.now,
    )

pub walk_stmt-returns-in-Assign-clause-did : goal.walk_stmt-returns-in-Assign-clause-did
walk_stmt-returns-in-Assign-clause-did g t c = c.walk_assignment.ensures.did

pub walk_stmt-returns-in-Write-clause-did : goal.walk_stmt-returns-in-Write-clause-did
walk_stmt-returns-in-Write-clause-did g t c = c.walk_write.ensures.did

pub walk_stmt-returns-in-Store-clause-did : goal.walk_stmt-returns-in-Store-clause-did
walk_stmt-returns-in-Store-clause-did g t c = c.walk_store.ensures.did

pub walk_stmt-returns-in-While-clause-did : goal.walk_stmt-returns-in-While-clause-did
walk_stmt-returns-in-While-clause-did g t c =
    let w = observing g.O.Observer.in_turn g.O.Observer.told g.O.Observer.assigned in
    loop_goes w c.args.stmt.now _ _ c.in-While.body c.in-While.is c.args.around.now c.args.observer.now c.args.state.now c.args.left.now c.walk_loop.result _ _ _ c.walk_loop.ensures.did

pub walk_loop-returns-in_err-turns-clause-did : goal.walk_loop-returns-in_err-turns-clause-did
walk_loop-returns-in_err-turns-clause-did g t c =
    let p = err_from_is_err_and c.from_residual.result c.from_residual.ensures.1 in
    rw (p.1, p.2) tt

pub walk_block-returns-clause-fewer : goal.walk_block-returns-clause-fewer
walk_block-returns-clause-fewer g t c = c.loop-stmt.invariant.2

pub walk_block-returns-in_err-walk_stmt-clause-fewer : goal.walk_block-returns-in_err-walk_stmt-clause-fewer
walk_block-returns-in_err-walk_stmt-clause-fewer g t c = le_trans c.walk_stmt.ensures.fewer c.loop-stmt.invariant.2

pub walk_loop-returns-in_err-turns-clause-fewer : goal.walk_loop-returns-in_err-turns-clause-fewer
walk_loop-returns-in_err-turns-clause-fewer g t c = c.loop-turn.invariant.1

pub walk_loop-returns-clause-fewer : goal.walk_loop-returns-clause-fewer
walk_loop-returns-clause-fewer g t c = c.loop-turn.invariant.1

pub walk_loop-returns-in_err-take_step-clause-fewer : goal.walk_loop-returns-in_err-take_step-clause-fewer
walk_loop-returns-in_err-take_step-clause-fewer g t c = le_trans c.take_step.ensures.fewer c.loop-turn.invariant.1

pub walk_loop-returns-then-not-is_true-clause-fewer : goal.walk_loop-returns-then-not-is_true-clause-fewer
walk_loop-returns-then-not-is_true-clause-fewer g t c = le_trans c.take_step.ensures.fewer c.loop-turn.invariant.1

pub walk_loop-returns-in_err-walk_block-clause-fewer : goal.walk_loop-returns-in_err-walk_block-clause-fewer
walk_loop-returns-in_err-walk_block-clause-fewer g t c = le_trans c.walk_block.ensures.fewer (le_trans c.take_step.ensures.fewer c.loop-turn.invariant.1)

pub walk_loop-returns-in_ok-walk_block-clause-fewer : goal.walk_loop-returns-in_ok-walk_block-clause-fewer
walk_loop-returns-in_ok-walk_block-clause-fewer g t c = le_trans c.walk_block.ensures.fewer (le_trans c.take_step.ensures.fewer c.loop-turn.invariant.1)

pub walk_stmt-returns-in-Assign-clause-fewer : goal.walk_stmt-returns-in-Assign-clause-fewer
walk_stmt-returns-in-Assign-clause-fewer g t c = c.walk_assignment.ensures.fewer

pub walk_stmt-returns-in-While-clause-fewer : goal.walk_stmt-returns-in-While-clause-fewer
walk_stmt-returns-in-While-clause-fewer g t c = c.walk_loop.ensures.fewer

pub walk_stmt-returns-in-Write-clause-fewer : goal.walk_stmt-returns-in-Write-clause-fewer
walk_stmt-returns-in-Write-clause-fewer g t c = c.walk_write.ensures.fewer

pub walk_stmt-returns-in-Store-clause-fewer : goal.walk_stmt-returns-in-Store-clause-fewer
walk_stmt-returns-in-Store-clause-fewer g t c = c.walk_store.ensures.fewer
