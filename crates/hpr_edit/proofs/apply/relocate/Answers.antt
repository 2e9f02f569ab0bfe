use Rattle.std.proofs.Common.{◌≡◌, None, ap, sym, ◌∙◌}
use Rattle.std.proofs.lemmas.Option.{same_Some}
use Rattle.std.proofs.lemmas.Result.{err_from_is_err_and}
use Rattle.hpr_syntax.specs.BodyOf.{before}
use Rattle.hpr_edit.specs.declared.command.Inverse.TheVariants.{MoveBack}
use Rattle.hpr_edit.specs.Changes.{at_part, at_place, gone}
use Rattle.hpr_edit.specs.Edited.{becomes}
use Rattle.hpr_edit.specs.InPlace.{tree_of, Leaves}
use Rattle.hpr_edit.specs.Tested.{misplaced}
use Rattle.hpr_edit.proofs.Undone.{known, delete_back}
use Rattle.hpr_edit.proofs.Carried.{move_becomes, move_refused}
use Rattle.hpr_edit.proofs.apply.relocate.Goals as goal

pub returns-in_err-old-clause-made : goal.returns-in_err-old-clause-made
returns-in_err-old-clause-made c = λ issued finals author is.
    let p = err_from_is_err_and c.from_residual.result c.from_residual.ensures.1 in
    rw (p.1, p.2) (c.in_err-old.ensures.refused issued finals author is)

pub returns-in-None-clause-made : goal.returns-in-None-clause-made
returns-in-None-clause-made c = λ issued finals author is.
    let t = c.args.tag in
    let b = c.args.body.now in
    let old = c.in_ok-old.old in
    let place = c.args.place in
    let s = c.unwrap-part.result in
    let left = at_part t gone b in
    let l : Leaves t place.parent old b = c.in_ok-old.ensures.leaves in
    let same : l.part ≡ s = same_Some l.part s (sym l.found ∙ sym c.take_out.ensures.part ∙ c.unwrap-part.ensures) in
    let fits : misplaced place l.part left ≡ None =
    ap (λ x. misplaced place x left) same ∙ ap (misplaced place s) (sym c.take_out.ensures.left) ∙ sym c.misplaced.ensures ∙ c.in-None.is in
    let new : c.put_part.new.body ≡ at_place place (before l.part) left =
    c.put_part.ensures ∙ ap (at_place place (before s)) c.take_out.ensures.left ∙ ap (λ x. at_place place (before x) left) (sym same) in
    move_becomes (tree_of issued b finals) is t l.part old l.found l.place place author l.out fits
    ∙ ap (λ y. becomes (tree_of issued y finals) (MoveBack t old)) (sym new)

pub returns-in-Some-clause-made : goal.returns-in-Some-clause-made
returns-in-Some-clause-made c = λ issued finals author is.
    let t = c.args.tag in
    let b = c.args.body.now in
    let place = c.args.place in
    let s = c.unwrap-part.result in
    let l : Leaves t place.parent c.in_ok-old.old b = c.in_ok-old.ensures.leaves in
    let same : l.part ≡ s = same_Some l.part s (sym l.found ∙ sym c.take_out.ensures.part ∙ c.unwrap-part.ensures) in
    move_refused (tree_of issued b finals) is t l.part c.in_ok-old.old l.found l.place place author l.out c.in-Some.why
    (ap (λ x. misplaced place x (at_part t gone b)) same ∙ ap (misplaced place s) (sym c.take_out.ensures.left) ∙ sym c.misplaced.ensures ∙ c.in-Some.is)

pub returns-in-Some-clause-body : goal.returns-in-Some-clause-body
returns-in-Some-clause-body c =
    let t = c.args.tag in
    let b = c.args.body.now in
    let old = c.in_ok-old.old in
    let s = c.unwrap-part.result in
    let l : Leaves t c.args.place.parent old b = c.in_ok-old.ensures.leaves in
    let same : l.part ≡ s = same_Some l.part s (sym l.found ∙ sym c.take_out.ensures.part ∙ c.unwrap-part.ensures) in
    c.put_part-in-Some.ensures
    ∙ ap (at_place old (before s)) c.take_out.ensures.left
    ∙ ap (λ x. at_place old (before x) (at_part t gone b)) (sym same)
    ∙ delete_back t b l.part old (known t b l.part old c.requires.once l.found l.place)
