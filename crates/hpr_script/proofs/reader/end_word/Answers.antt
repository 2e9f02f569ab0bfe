use Rattle.std.proofs.Common.{◌∙◌, ap, Err}
use Rattle.std.proofs.lemmas.Result.{err_from_is_err_and}
use Rattle.hpr_script.proofs.Places.{word_refused, word_place_from, word_leads, if_ok, if_syntax, err_is}
use Rattle.hpr_script.proofs.reader.end_word.Goals as goal

pub returns-in_err-found-clause-syntax : goal.returns-in_err-found-clause-syntax
returns-in_err-found-clause-syntax c =
    let p = err_from_is_err_and c.from_residual.result c.from_residual.ensures.1 in
    err_is _ c.from_residual.result c.in_err-found.field-0.0 (p.1 ∙ ap Err p.2)
    (word_refused c.args.found c.args.stage c.args.letters.now c.args.bytes.now c.args.at c.in_err-found.field-0.0 c.requires.begun c.requires.ends c.requires.inside c.in_err-found.ensures)

pub returns-clause-leads : goal.returns-clause-leads
returns-clause-leads c =
    if_ok _ _
    (λ x h. word_leads c.args.found c.args.stage (c.in_ok-found.found, c.in_ok-found.turn) c.args.letters.now c.args.bytes.now c.args.at x.0 x.1 c.requires.inside c.requires.ends c.in_ok-found.ensures h)
    c.after_turn.result c.after_turn.ensures.leads

pub returns-clause-syntax : goal.returns-clause-syntax
returns-clause-syntax c =
    if_syntax _ _
    (λ n h. word_place_from c.args.found c.args.stage (c.in_ok-found.found, c.in_ok-found.turn) c.args.letters.now c.args.bytes.now c.args.at n c.requires.inside c.requires.ends c.in_ok-found.ensures h)
    c.after_turn.result c.after_turn.ensures.syntax
