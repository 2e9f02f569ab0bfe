use Rattle.std.proofs.Common.{◌≤◌, sym, ◌∙◌, subst}
use Rattle.hpr_terms.specs.declared.limits.TheConstants.{MAX_PARTS}
use Rattle.hpr_syntax.specs.Body.{part_count}
use Rattle.hpr_syntax.proofs.PartBound.{few_parts}
use Rattle.hpr_edit.proofs.revert.body_back.Goals as goal

pub change_back-requires-clause-few : goal.change_back-requires-clause-few
change_back-requires-clause-few c =
    subst (λ b. part_count b ≤ MAX_PARTS) (sym (c.in_ok-body.ensures ∙ c.body.ensures.body)) (few_parts c.args.program.now c.body.ensures.program)
