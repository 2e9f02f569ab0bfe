use Rattle.std.proofs.Common.{◌+◌, ap, sym, ◌∙◌}
use Rattle.hpr_edit.specs.InPlace.{tree_of}
use Rattle.hpr_edit.specs.Tested.{none_left, room_at, new_refusal}
use Rattle.hpr_edit.proofs.Carried.{insert_becomes, insert_refused}
use Rattle.hpr_edit.proofs.apply.tag_to_insert.Goals as goal

pub returns-in-Some-new_refusal-clause-allowed : goal.returns-in-Some-new_refusal-clause-allowed
returns-in-Some-new_refusal-clause-allowed c = λ finals is.
    let t = c.in-Some.tag in
    let content = c.args.content.now in
    insert_refused (tree_of c.args.issued.now c.args.body.now finals) is c.args.place content c.args.author t
    (sym c.is_place.ensures ∙ c.if-not-is_place.false) (sym c.in-Some.is ∙ c.next_tag.ensures.tag) c.in-Some-new_refusal.why
    (ap (λ n. new_refusal (none_left (room_at c.args.place.parent c.args.body.now) t) t content (n + 1)) (sym c.requires.count)
    ∙ ap (λ d. new_refusal d t content (c.args.count + 1)) (sym (c.none_left-deep.ensures ∙ ap (λ n. none_left n t) c.room_at.ensures))
    ∙ sym c.new_refusal.ensures
    ∙ c.in-Some-new_refusal.is)

pub returns-in-None-clause-allowed : goal.returns-in-None-clause-allowed
returns-in-None-clause-allowed c = λ finals is.
    let t = c.in-Some.tag in
    let content = c.args.content.now in
    insert_becomes (tree_of c.args.issued.now c.args.body.now finals) is c.args.place content c.args.author t
    (sym c.is_place.ensures ∙ c.if-not-is_place.false) (sym c.in-Some.is ∙ c.next_tag.ensures.tag)
    (ap (λ n. new_refusal (none_left (room_at c.args.place.parent c.args.body.now) t) t content (n + 1)) (sym c.requires.count)
    ∙ ap (λ d. new_refusal d t content (c.args.count + 1)) (sym (c.none_left-deep.ensures ∙ ap (λ n. none_left n t) c.room_at.ensures))
    ∙ sym c.new_refusal.ensures
    ∙ c.in-None.is)
