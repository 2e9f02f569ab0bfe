use Rattle.std.proofs.Common.{ap, sym, ◌∙◌}
use Rattle.std.proofs.lemmas.Result.{err_from_is_err_and}
use Rattle.hpr_edit.specs.Edited.{becomes}
use Rattle.hpr_edit.specs.InPlace.{tree_of}
use Rattle.hpr_edit.proofs.apply.unwrap.Goals as goal

pub returns-in_err-inverse-clause-made : goal.returns-in_err-inverse-clause-made
returns-in_err-inverse-clause-made c = λ issued finals author is.
    let p = err_from_is_err_and c.from_residual.result c.from_residual.ensures.1 in
    rw (p.1, p.2) (c.in_err-inverse.ensures issued finals author is)

pub returns-clause-made : goal.returns-clause-made
returns-clause-made c = λ issued finals author is.
    c.in_ok-inverse.ensures issued finals author is ∙ ap (λ b. becomes (tree_of issued b finals) c.in_ok-inverse.inverse) (sym c.in_ok-change_body.ensures.changed)
