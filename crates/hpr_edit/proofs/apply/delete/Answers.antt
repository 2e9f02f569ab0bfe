use Rattle.std.proofs.Common.{ap, sym, ◌∙◌}
use Rattle.std.proofs.lemmas.Option.{same_Some}
use Rattle.hpr_edit.specs.declared.command.Inverse.TheVariants.{PutBack}
use Rattle.hpr_edit.specs.Edited.{becomes}
use Rattle.hpr_edit.specs.InPlace.{tree_of}
use Rattle.hpr_edit.proofs.Carried.{delete_becomes}
use Rattle.hpr_edit.proofs.apply.delete.Goals as goal

pub returns-clause-made : goal.returns-clause-made
returns-clause-made c = λ issued finals author is.
    let s = c.in-Some.found.part.now in
    let old = c.in-Some.found.place in
    let at = c.in-Some.ensures.found in
    delete_becomes (tree_of issued c.args.body.now finals) is c.args.tag s old at.0 at.1 author
    ∙ ap (λ b. becomes (tree_of issued b finals) (PutBack old s)) (sym c.take_out.ensures.left)
    ∙ ap (λ x. becomes (tree_of issued c.take_out.new.body finals) (PutBack old x)) (same_Some s c.unwrap-part.result (sym at.0 ∙ sym c.take_out.ensures.part ∙ c.unwrap-part.ensures))
