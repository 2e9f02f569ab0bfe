use Rattle.std.proofs.Common.{◌∙◌, refl}
use Rattle.hpr_merge.proofs.conflicts.is_conflicting.Goals as goal

pub returns-in-Some : goal.returns-in-Some
returns-in-Some c = λ v at_v.
    let at_to = c.in-Some.ensures.found ∙ at_v in
    let marked = c.requires.reached.affected.exact c.in-Some.to v at_to in (
      λ t. (c.has_number.ensures.0 c.if-not-has_number.false, marked.0 (c.is_marked.ensures.0 t)),
      λ (one, affected). c.is_marked.ensures.1 (marked.1 affected),
    )

pub returns-in-None : goal.returns-in-None
returns-in-None c = λ v at_v. (λ t. absurd cc, λ (one, affected). absurd (c.in-None.ensures.stranger refl v at_v affected.0))
