use Rattle.std.proofs.Common.{ap, sym, ◌∙◌}
use Rattle.hpr_edit.specs.Changes.{at_part, unwrapped}
use Rattle.hpr_edit.specs.Edited.{becomes}
use Rattle.hpr_edit.specs.InPlace.{tree_of}
use Rattle.hpr_edit.proofs.Carried.{unwrap_becomes}
use Rattle.hpr_edit.proofs.apply.inverse_of_unwrap.Goals as goal

pub returns : goal.returns
returns c = λ issued finals author is.
    let t = c.args.tag in
    unwrap_becomes (tree_of issued c.args.body.now finals) is t c.in-Some.found.part.now c.in-Some.found.place c.in-Some.ensures.found.0 c.in-Some.ensures.found.1 author
    (sym c.says_action.ensures ∙ c.if-says_action.false)
    ∙ ap (becomes (tree_of issued (at_part t unwrapped c.args.body.now) finals)) (sym c.in_ok-rewrapping.ensures)
