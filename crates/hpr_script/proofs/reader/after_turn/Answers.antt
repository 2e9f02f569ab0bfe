use Rattle.std.proofs.Common.{◌∙◌, ap, Err}
use Rattle.std.proofs.lemmas.Result.{err_from_is_err_and}
use Rattle.hpr_script.proofs.Places.{gap_leads, gap_refused, content_refused, if_syntax, err_is}
use Rattle.hpr_script.proofs.reader.after_turn.Goals as goal

pub returns-in_err-reader-in-Head-clause-syntax : goal.returns-in_err-reader-in-Head-clause-syntax
returns-in_err-reader-in-Head-clause-syntax c =
    let p = err_from_is_err_and c.from_residual.result c.from_residual.ensures.1 in
    rw c.in-Head.is
    (err_is _ c.from_residual.result c.in_err-reader-in-Head.field-0.0 (p.1 ∙ ap Err p.2)
    (gap_refused c.args.found c.in-Head.stage c.args.bytes.now c.args.at c.in_err-reader-in-Head.field-0.0 c.requires c.in_err-reader-in-Head.ensures))

pub returns-in_ok-reader-in-Head-clause-leads : goal.returns-in_ok-reader-in-Head-clause-leads
returns-in_ok-reader-in-Head-clause-leads c =
    rw c.in-Head.is (gap_leads c.args.found c.in-Head.stage c.args.bytes.now c.args.at c.in_ok-reader-in-Head.reader c.requires c.in_ok-reader-in-Head.ensures)

pub returns-in-Content-clause-syntax : goal.returns-in-Content-clause-syntax
returns-in-Content-clause-syntax c =
    rw c.in-Content.is (if_syntax _ _ (λ n h. content_refused c.args.found c.in-Content.holder c.args.bytes.now c.args.at n h) c.step_content.result c.step_content.ensures.syntax)
