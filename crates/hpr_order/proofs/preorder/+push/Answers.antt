use Rattle.std.proofs.lemmas.Result.{on_ok_weaker}
use Rattle.hpr_syntax.proofs.RowLemmas.{drop_turn}
use Rattle.hpr_order.proofs.PartTurns.{turn_parts, parts_simple, parts_while, parts_if}
use Rattle.hpr_order.proofs.preorder.+push.Goals as goal

pub push_block-loop-stmt-preserved : goal.push_block-loop-stmt-preserved
push_block-loop-stmt-preserved n c =
    let turn = drop_turn c.deref-stmt-items.result.now c.loop-stmt.stmt-index c.stmt-item.result c.loop-stmt-test.true c.stmt-item.is in
    record {
      view = c.loop-stmt.invariant.view;
      parts = turn_parts c.loop-stmt.into.items c.push_stmt.new.into.items _ _ _ c.stmt-item.result turn c.in_ok-push_stmt.ensures c.loop-stmt.invariant.parts;
    }

pub push_stmt-returns-in_default : goal.push_stmt-returns-in_default
push_stmt-returns-in_default n c = parts_simple c.args.stmt.now (c.in_default.not-If, c.in_default.not-While) c.args.into.now.items c.push_part.new.into.items c.in_ok-push_part.ensures

pub push_stmt-returns-in-While : goal.push_stmt-returns-in-While
push_stmt-returns-in-While n c =
    on_ok_weaker c.push_block-in-While.result
    (λ more. parts_while c.args.stmt.now c.in-While.field-0 c.in-While.field-1 c.in-While.body c.in-While.is c.args.into.now.items c.push_part.new.into.items c.push_block-in-While.new.into.items c.in_ok-push_part.ensures more)
    c.push_block-in-While.ensures

pub push_stmt-returns-in_ok-push_block-in-If : goal.push_stmt-returns-in_ok-push_block-in-If
push_stmt-returns-in_ok-push_block-in-If n c =
    on_ok_weaker c.push_block-in-If.result
    (λ more. parts_if c.args.stmt.now c.in-If.field-0 c.in-If.field-1 c.in-If.yes c.in-If.no c.in-If.is c.args.into.now.items c.push_part.new.into.items c.push_block.new.into.items c.push_block-in-If.new.into.items
    c.in_ok-push_part.ensures c.in_ok-push_block-in-If.ensures more)
    c.push_block-in-If.ensures
