use Rattle.std.proofs.Common.{◌+◌, ap, sym, ◌∙◌}
use Rattle.hpr_terms.specs.declared.limits.TheConstants.{MAX_LEVELS}
use Rattle.hpr_syntax.specs.Body.{done}
use Rattle.hpr_syntax.specs.BodyOf.{before}
use Rattle.hpr_syntax.specs.Shape.{first_deep}
use Rattle.hpr_edit.specs.Edited.{is_spent, next_tag}
use Rattle.hpr_edit.specs.InPlace.{tree_of}
use Rattle.hpr_edit.specs.Tested.{below, left_at, new_refusal}
use Rattle.hpr_edit.proofs.Ends.{spent}
use Rattle.hpr_edit.proofs.Carried.{wrap_becomes, wrap_differs, wrap_spent, wrap_refused}
use Rattle.hpr_edit.proofs.apply.tag_to_wrap.Goals as goal

pub returns-then-is_action-clause-allowed : goal.returns-then-is_action-clause-allowed
returns-then-is_action-clause-allowed c = λ finals is.
    wrap_differs (tree_of c.args.issued.now c.args.body.now finals) is c.args.tag c.in-Some.found.part.now c.args.content.now c.args.author c.in-Some.ensures.found.0
    (sym c.is_action.ensures ∙ c.if-is_action.true)

pub returns-in_default-next_tag-clause-allowed : goal.returns-in_default-next_tag-clause-allowed
returns-in_default-next_tag-clause-allowed c = λ finals is.
    wrap_spent (tree_of c.args.issued.now c.args.body.now finals) is c.args.tag c.in-Some.found.part.now c.args.content.now c.args.author c.in-Some.ensures.found.0
    (sym c.is_action.ensures ∙ c.if-is_action.false)
    (spent (is_spent c.args.author c.args.issued.now) (next_tag c.args.author c.args.issued.now) (sym c.next_tag.ensures.tag ∙ c.in_default-next_tag.is))

pub returns-in-Some-new_refusal-clause-allowed : goal.returns-in-Some-new_refusal-clause-allowed
returns-in-Some-new_refusal-clause-allowed c = λ finals is.
    let t = c.in-Some-next_tag.new in
    let s = c.in-Some.found.part.now in
    let content = c.args.content.now in
    wrap_refused (tree_of c.args.issued.now c.args.body.now finals) is c.args.tag s content c.args.author c.in-Some.ensures.found.0
    (sym c.is_action.ensures ∙ c.if-is_action.false) t (sym c.in-Some-next_tag.is ∙ c.next_tag.ensures.tag) c.in-Some-new_refusal.why
    (ap (λ n. new_refusal (first_deep (below (left_at c.args.tag MAX_LEVELS c.args.body.now)) (before s done)) t content (n + 1)) (sym c.part_count.ensures)
    ∙ ap (λ d. new_refusal d t content (c.part_count.result + 1)) (sym (c.first_deep-deep.ensures ∙ ap (λ n. first_deep n (before s done)) (c.saturating_sub.ensures ∙ ap below c.in-Some.ensures.levels)))
    ∙ sym c.new_refusal.ensures
    ∙ c.in-Some-new_refusal.is)

pub returns-in-None-clause-allowed : goal.returns-in-None-clause-allowed
returns-in-None-clause-allowed c = λ finals is.
    let t = c.in-Some-next_tag.new in
    let s = c.in-Some.found.part.now in
    let content = c.args.content.now in
    wrap_becomes (tree_of c.args.issued.now c.args.body.now finals) is c.args.tag s content c.args.author c.in-Some.ensures.found.0
    (sym c.is_action.ensures ∙ c.if-is_action.false) t (sym c.in-Some-next_tag.is ∙ c.next_tag.ensures.tag)
    (ap (λ n. new_refusal (first_deep (below (left_at c.args.tag MAX_LEVELS c.args.body.now)) (before s done)) t content (n + 1)) (sym c.part_count.ensures)
    ∙ ap (λ d. new_refusal d t content (c.part_count.result + 1)) (sym (c.first_deep-deep.ensures ∙ ap (λ n. first_deep n (before s done)) (c.saturating_sub.ensures ∙ ap below c.in-Some.ensures.levels)))
    ∙ sym c.new_refusal.ensures
    ∙ c.in-None.is)
