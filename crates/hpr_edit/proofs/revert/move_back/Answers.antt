use Rattle.std.proofs.Common.{◌≡◌, None, ap, sym, ◌∙◌}
use Rattle.hpr_syntax.specs.Parts.{find_stmt}
use Rattle.hpr_edit.specs.Changes.{gone}
use Rattle.hpr_edit.specs.Reverted.{moved}
use Rattle.hpr_edit.proofs.Around.{absent}
use Rattle.hpr_edit.proofs.Exchanged.{none_stands}
use Rattle.hpr_edit.proofs.revert.move_back.Goals as goal

pub returns-in_default : goal.returns-in_default
returns-in_default c =
    let t = c.args.tag in
    let b = c.args.body.now in
    let none : find_stmt t b ≡ None = sym c.take_out.ensures.part ∙ c.in_default.is in
    c.take_out.ensures.left ∙ absent t gone b (none_stands t b none) ∙ ap (λ o. moved o t c.args.place b) (sym none)
