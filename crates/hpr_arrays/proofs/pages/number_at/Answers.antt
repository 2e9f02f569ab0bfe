use Rattle.std.proofs.Common.{rules, ◌/◌, ◌%◌, FitsSigned, w64, List, ℤ, pos, get_or, ap, sym, ◌∙◌}
use Rattle.std.proofs.lemmas.Int.{to_z-of_z}
use Rattle.hpr_arrays.specs.Pages.{rows_of}
use Rattle.hpr_arrays.proofs.Rows.{element_at}
use Rattle.hpr_arrays.proofs.pages.number_at.Goals as goal

pub returns : goal.returns
returns c =
    let fits : FitsSigned w64 c.number_in.result = search rules in
    to_z-of_z w64 c.number_in.result fits ∙ c.number_in.ensures ∙ ap (λ (row : List ℤ). get_or row (c.from-at.result % 256) (pos 0)) c.row_at.ensures
    ∙ sym (element_at (rows_of c.args.pages.now) (c.from-at.result / 256) (c.from-at.result % 256) c.args.at c.requires (search rules) (search rules))
