use Rattle.std.proofs.Common.{subst, sym}
use Rattle.std.proofs.lemmas.Result.{IfOk-weaker}
use Rattle.hpr_report.specs.AffectedText.{IsOneOf, ArePoints}
use Rattle.hpr_report.proofs.points.affected_text.Goals as goal

pub returns : goal.returns
returns c =
    let are = subst (ArePoints (IsOneOf c.args.variant.now c.args.points.now)) (sym c.vertices.ensures.vertices) c.in_ok-affected.ensures in
    IfOk-weaker c.text_of.result _ _ (λ text is. (c.vertices.result.now, are, is)) c.text_of.ensures
