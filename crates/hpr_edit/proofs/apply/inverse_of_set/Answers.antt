use Rattle.std.proofs.Common.{ap, sym, ◌∙◌}
use Rattle.hpr_edit.specs.declared.command.Inverse.TheVariants.{SetBack}
use Rattle.hpr_edit.specs.Changes.{at_part, saying}
use Rattle.hpr_edit.specs.Edited.{becomes}
use Rattle.hpr_edit.specs.InPlace.{tree_of}
use Rattle.hpr_edit.proofs.Carried.{set_becomes, set_differs, set_refused}
use Rattle.hpr_edit.proofs.apply.inverse_of_set.Goals as goal

pub returns-then-not-same_kind : goal.returns-then-not-same_kind
returns-then-not-same_kind c = λ issued finals author is.
    set_differs (tree_of issued c.args.body.now finals) is c.args.tag c.in-Some.part.now c.args.content.now author (sym c.in-Some.ensures)
    (sym c.same_kind.ensures ∙ c.if-not-same_kind.true)

pub returns-in-Some-said_refusal : goal.returns-in-Some-said_refusal
returns-in-Some-said_refusal c = λ issued finals author is.
    set_refused (tree_of issued c.args.body.now finals) is c.args.tag c.in-Some.part.now c.args.content.now author (sym c.in-Some.ensures)
    (sym c.same_kind.ensures ∙ c.if-not-same_kind.false) c.in-Some-said_refusal.why (sym c.said_refusal.ensures ∙ c.in-Some-said_refusal.is)

pub returns : goal.returns
returns c = λ issued finals author is.
    let t = c.args.tag in
    let content = c.args.content.now in
    set_becomes (tree_of issued c.args.body.now finals) is t c.in-Some.part.now content author (sym c.in-Some.ensures)
    (sym c.same_kind.ensures ∙ c.if-not-same_kind.false) (sym c.said_refusal.ensures ∙ c.in_default-said_refusal.is)
    ∙ ap (λ d. becomes (tree_of issued (at_part t (saying content) c.args.body.now) finals) (SetBack t d)) (sym c.in_ok-content_of.ensures)
