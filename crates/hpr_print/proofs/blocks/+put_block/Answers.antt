use Rattle.std.proofs.Common.{◌≡◌, ◌+◌, drop, length, arith, List, append_assoc, ℕ, false, ◌==◌, codes, ◌++◌, ap, ◌∙◌}
use Rattle.std.proofs.lemmas.Grind.{common_steps}
use Rattle.std.proofs.lemmas.Result.{on_ok_weaker}
use Rattle.hpr_syntax.specs.Body.{done, depth}
use Rattle.hpr_syntax.specs.BodyOf.{before, body_of}
use Rattle.hpr_syntax.specs.Print.{body_text, line}
use Rattle.hpr_syntax.proofs.RowLemmas.{drop_turn}
use Rattle.hpr_print.proofs.Texts.{part_fits, first_part, else_shown, no_text, write_text, branch_text, loop_text}
use Rattle.hpr_print.proofs.blocks.+put_block.Goals as goal

pub put_block-put_stmt-requires : goal.put_block-put_stmt-requires
put_block-put_stmt-requires t c =
    let fits = part_fits c.deref-stmt-items.result.now c.loop-stmt.stmt-index c.stmt-item.result (depth c.args.block.now) c.loop-stmt-test.true c.stmt-item.is c.loop-stmt.invariant.1 in
    (grind (arith, common_steps), omega arith)

pub put_block-loop-stmt-preserved : goal.put_block-loop-stmt-preserved
put_block-loop-stmt-preserved t c =
    let fits = part_fits c.deref-stmt-items.result.now c.loop-stmt.stmt-index c.stmt-item.result (depth c.args.block.now) c.loop-stmt-test.true c.stmt-item.is c.loop-stmt.invariant.1 in
    let here = drop_turn c.deref-stmt-items.result.now c.loop-stmt.stmt-index c.stmt-item.result c.loop-stmt-test.true c.stmt-item.is in
    let first = first_part c.args.level c.stmt-item.result (body_of (drop (c.loop-stmt.stmt-index + 1) c.deref-stmt-items.result.now)) in
    (c.loop-stmt.invariant.0, fits.1, cc (c.in_ok-put_stmt.ensures, append_assoc c.loop-stmt.out.items (body_text c.args.level (before c.stmt-item.result done)) (body_text c.args.level (body_of (drop (c.loop-stmt.stmt-index + 1) c.deref-stmt-items.result.now)))))

pub put_block-returns : goal.put_block-returns
put_block-returns t c = let e = no_text c.args.level c.deref-stmt-items.result.now c.loop-stmt.stmt-index c.loop-stmt.out.items c.loop-stmt-test.false in cc (e, c.loop-stmt.invariant.2)

pub put_else-returns-in_ok-put_block : goal.put_else-returns-in_ok-put_block
put_else-returns-in_ok-put_block t c =
    let some : (length c.block.inside.stmts.items == 0) ≡ false = grind arith in
    let shown : List ℕ = body_text (c.args.level + 1) c.args.block.now in
    cc (else_shown c.args.level c.block.inside.stmts.items shown some, c.in_ok-put_line.ensures, c.in_ok-put_block.ensures, append_assoc c.args.out.now.items (line c.args.level (codes "else")) shown)

pub put_stmt-returns-in_ok-put_else-in-If : goal.put_stmt-returns-in_ok-put_else-in-If
put_stmt-returns-in_ok-put_else-in-If t c =
    on_ok_weaker c.put_line.result
    (branch_text c.args.level c.args.stmt.now c.in-If.tag c.in-If.test c.in-If.yes c.in-If.no c.args.out.now.items c.put_first_line.new.out.items c.put_block.new.out.items
    c.put_else.new.out.items c.put_line.new.out.items c.in-If.is c.in_ok-put_first_line-in-If.ensures c.in_ok-put_block-in-If.ensures c.in_ok-put_else-in-If.ensures)
    c.put_line.ensures

pub put_stmt-returns-in_ok-put_block-in-While : goal.put_stmt-returns-in_ok-put_block-in-While
put_stmt-returns-in_ok-put_block-in-While t c =
    on_ok_weaker c.put_line-in-While.result
    (loop_text c.args.level c.args.stmt.now c.in-While.tag c.in-While.test c.in-While.body c.args.out.now.items c.put_first_line-in-While.new.out.items
    c.put_block-in-While.new.out.items c.put_line-in-While.new.out.items c.in-While.is c.in_ok-put_first_line-in-While.ensures c.in_ok-put_block-in-While.ensures)
    c.put_line-in-While.ensures

pub put_stmt-returns-in-Write : goal.put_stmt-returns-in-Write
put_stmt-returns-in-Write t c =
    let e = write_text c.args.level c.args.stmt.now c.in-Write.tag c.in-Write.field-1 c.in-Write.value c.in-Write.is in
    on_ok_weaker c.put_first_line-in-Write.result (λ h. h ∙ ap (λ (text : List ℕ). c.args.out.now.items ++ text) e) c.put_first_line-in-Write.ensures
