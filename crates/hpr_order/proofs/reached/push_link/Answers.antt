use Rattle.std.proofs.Common.{◌∙◌, sym}
use Rattle.hpr_order.proofs.Rows.{pushed_one}
use Rattle.hpr_order.proofs.reached.push_link.Goals as goal

pub returns-in_ok-push-in-Some-clause-rows : goal.returns-in_ok-push-in-Some-clause-rows
returns-in_ok-push-in-Some-clause-rows c =
    pushed_one _ _ c.args.link c.args.number c.in-Some.field-0 (sym c.label_of.ensures ∙ c.in-Some.is) c.in_ok-push-in-Some.ensures.pushed
