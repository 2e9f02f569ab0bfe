use Rattle.std.proofs.Common.{◌+◌, ◌∙◌, true, false, Some, [], ◌∷◌, ◌++◌, ap, sym, append-nil, drop, drop_of_length-le, arith}
use Rattle.std.proofs.lemmas.Grind.{common_steps}
use Rattle.std.proofs.lemmas.Result.{on_ok_weaker}
use Rattle.hpr_syntax.specs.declared.rows.Content.TheVariants as content
use Rattle.hpr_syntax.specs.Body.{done}
use Rattle.hpr_syntax.specs.BodyOf.{before, body_of}
use Rattle.hpr_syntax.specs.Parts.{tag_of}
use Rattle.hpr_syntax.specs.Rows.{content_of, row_of, rows_of}
use Rattle.hpr_syntax.proofs.RowLemmas.{rows_before, with_one, with_both}
use Rattle.hpr_syntax.proofs.rows.+push.Goals as goal

pub push_block-loop-at-preserved : goal.push_block-loop-at-preserved
push_block-loop-at-preserved t c =
    let e = rows_before c.args.parent c.loop-at.at c.stmt-item.result (body_of (drop (c.loop-at.at + 1) c.deref-stmt-items.result.now)) in
    (c.loop-at.invariant.0, grind (arith, common_steps, e, c.loop-at.invariant.1))

pub push_stmt-returns-in_ok-push_block-in-If : goal.push_stmt-returns-in_ok-push_block-in-If
push_stmt-returns-in_ok-push_block-in-If t c =
    let old = c.args.rows.now.items in
    let i = c.in-If in
    let yes = rows_of (Some (i.tag, true)) 0 i.yes in
    let no = rows_of (Some (i.tag, false)) 0 i.no in
    on_ok_weaker c.push_block-in-If.result
    (λ e. e
    ∙ ap (λ r. r ++ no) (c.in_ok-push_block-in-If.ensures ∙ ap (λ r. r ++ yes) (c.in_ok-push_row.ensures ∙ ap (λ s. old ++ (row_of (tag_of s) c.args.parent c.args.at (content_of s) ∷ [])) i.is))
    ∙ with_both old (row_of i.tag c.args.parent c.args.at (content.If i.field-1)) yes no
    ∙ ap (λ s. old ++ rows_of c.args.parent c.args.at (before s done)) (sym i.is))
    c.push_block-in-If.ensures

pub push_stmt-returns-in-While : goal.push_stmt-returns-in-While
push_stmt-returns-in-While t c =
    let old = c.args.rows.now.items in
    let i = c.in-While in
    let body = rows_of (Some (i.tag, true)) 0 i.body in
    on_ok_weaker c.push_block-in-While.result
    (λ e. e
    ∙ ap (λ r. r ++ body) (c.in_ok-push_row.ensures ∙ ap (λ s. old ++ (row_of (tag_of s) c.args.parent c.args.at (content_of s) ∷ [])) i.is)
    ∙ with_one old (row_of i.tag c.args.parent c.args.at (content.While i.field-1)) body
    ∙ ap (λ s. old ++ rows_of c.args.parent c.args.at (before s done)) (sym i.is))
    c.push_block-in-While.ensures

pub push_block-loop-at-init : goal.push_block-loop-at-init
push_block-loop-at-init t c =
    let view = ap body_of c.deref-stmt-items.ensures.value ∙ c.block.view_is in
    (view, ap (λ b. c.args.rows.now.items ++ rows_of c.args.parent 0 b) view)

pub push_block-returns : goal.push_block-returns
push_block-returns t c =
    let over = drop_of_length-le c.deref-stmt-items.result.now c.loop-at-test.false in
    sym (append-nil c.loop-at.rows.items) ∙ ap (λ l. c.loop-at.rows.items ++ rows_of c.args.parent c.loop-at.at (body_of l)) (sym over) ∙ c.loop-at.invariant.1
