use Rattle.std.proofs.Common.{◌∙◌, ap, sym, Err}
use Rattle.std.proofs.lemmas.Result.{err_from_is_err_and}
use Rattle.hpr_script.specs.declared.scanner.Begun.TheVariants as begun
use Rattle.hpr_script.proofs.Places.{inner_refused_at, inner_leads_at, err_is}
use Rattle.hpr_script.proofs.reader.advance.Goals as goal

pub returns-in_err-reader-in-InWord-clause-syntax : goal.returns-in_err-reader-in-InWord-clause-syntax
returns-in_err-reader-in-InWord-clause-syntax c =
    let p = err_from_is_err_and c.from_residual.result c.from_residual.ensures.1 in
    err_is _ c.from_residual.result c.in_err-reader-in-InWord.field-0.0 (p.1 ∙ ap Err p.2)
    (inner_refused_at c.args.reader (begun.InWord c.in-InWord.letters) c.args.bytes.now c.args.at c.in_err-reader-in-InWord.field-0.0 c.in-InWord.is c.requires.sound (sym c.is_name_byte.ensures ∙ c.if-is_name_byte.true) c.requires.inside
    c.in_err-reader-in-InWord.ensures)

pub returns-in_err-reader-in-Gap-clause-syntax : goal.returns-in_err-reader-in-Gap-clause-syntax
returns-in_err-reader-in-Gap-clause-syntax c =
    let p = err_from_is_err_and c.from_residual-in_err-reader-in-Gap.result c.from_residual-in_err-reader-in-Gap.ensures.1 in
    err_is _ c.from_residual-in_err-reader-in-Gap.result c.in_err-reader-in-Gap.field-0.0 (p.1 ∙ ap Err p.2)
    (inner_refused_at c.args.reader begun.Gap c.args.bytes.now c.args.at c.in_err-reader-in-Gap.field-0.0 c.in-Gap.is c.requires.sound tt c.requires.inside c.in_err-reader-in-Gap.ensures)

pub returns-in_ok-reader-in-InWord-clause-leads : goal.returns-in_ok-reader-in-InWord-clause-leads
returns-in_ok-reader-in-InWord-clause-leads c =
    inner_leads_at c.args.reader (begun.InWord c.in-InWord.letters) c.args.bytes.now c.args.at c.in_ok-reader-in-InWord.reader c.in-InWord.is (sym c.is_name_byte.ensures ∙ c.if-is_name_byte.true) c.requires.inside c.in_ok-reader-in-InWord.ensures

pub returns-in_ok-reader-in-Gap-clause-leads : goal.returns-in_ok-reader-in-Gap-clause-leads
returns-in_ok-reader-in-Gap-clause-leads c =
    inner_leads_at c.args.reader begun.Gap c.args.bytes.now c.args.at c.in_ok-reader-in-Gap.reader c.in-Gap.is tt c.requires.inside c.in_ok-reader-in-Gap.ensures

pub returns-in_ok-reader-in-Comment-clause-leads : goal.returns-in_ok-reader-in-Comment-clause-leads
returns-in_ok-reader-in-Comment-clause-leads c =
    inner_leads_at c.args.reader begun.Comment c.args.bytes.now c.args.at c.in_ok-reader-in-Comment.reader c.in-Comment.is tt c.requires.inside c.in_ok-reader-in-Comment.ensures
