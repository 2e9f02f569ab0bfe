use Rattle.std.proofs.Common.{◌≡◌, ap, sym, ◌∙◌}
use Rattle.std.proofs.lemmas.Result.{err_from_is_err_and}
use Rattle.hpr_syntax.specs.Tree.{Tree}
use Rattle.hpr_syntax.specs.Shape.{shape}
use Rattle.hpr_edit.specs.declared.command.Inverse.TheVariants.{FinalsBack}
use Rattle.hpr_edit.specs.Edited.{becomes}
use Rattle.hpr_edit.specs.InPlace.{tree_of}
use Rattle.hpr_edit.specs.Tested.{names_alone}
use Rattle.hpr_edit.proofs.Carried.{finals_become, finals_end}
use Rattle.hpr_edit.proofs.apply.name_finals.Goals as goal

pub returns-in_err-alone-clause-made : goal.returns-in_err-alone-clause-made
returns-in_err-alone-clause-made c = λ issued body author is.
    let p = err_from_is_err_and c.from_residual-in_err-alone.result c.from_residual-in_err-alone.ensures.1 in
    rw (p.1, p.2)
    (finals_end (tree_of issued body c.args.finals.now.items) is c.args.names.now c.in_ok-copy.copy.items author c.in_err-alone.field-0.0
    (c.in_ok-copy.ensures ∙ c.names.ensures) c.in_err-alone.ensures)

pub returns-clause-made : goal.returns-clause-made
returns-clause-made c = λ issued body author is.
    let names = c.args.names.now in
    let copied : c.in_ok-copy.copy.items ≡ names = c.in_ok-copy.ensures ∙ c.names.ensures in
    let new : c.replace-old.new.dest.items ≡ names =
    ap (λ v. v.items) c.replace-old.ensures.after ∙ ap (λ (t : Tree). t.finals) (sym c.into_parts-new.ensures.parts ∙ c.in_ok-alone.ensures.0) ∙ copied in
    let old : c.new.result ≡ c.args.finals.now.items = c.new.ensures ∙ ap (λ v. v.items) c.replace-old.ensures.value in
    finals_become (tree_of issued body c.args.finals.now.items) is names author (ap (λ l. shape (names_alone l)) (sym copied) ∙ c.in_ok-alone.ensures.1.shape)
    ∙ ap (λ l. becomes (tree_of issued body l) (FinalsBack c.args.finals.now.items)) (sym new)
    ∙ ap (λ l. becomes (tree_of issued body c.replace-old.new.dest.items) (FinalsBack l)) (sym old)
