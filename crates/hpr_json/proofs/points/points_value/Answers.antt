use Rattle.std.proofs.Common.{subst, sym}
use Rattle.std.proofs.lemmas.Result.{IfOk-weaker}
use Rattle.hpr_report.specs.AffectedText.{IsOneOf, ArePoints}
use Rattle.hpr_json.proofs.points.points_value.Goals as goal

pub returns-clause-data : goal.returns-clause-data
returns-clause-data c =
    let are = subst (ArePoints (IsOneOf c.args.graph.now c.args.points.now)) (sym c.vertices.ensures.vertices) c.in_ok-kept.ensures in
    IfOk-weaker c.shown_value.result _ _ (λ value is. (c.vertices.result.now, are, is)) c.shown_value.ensures.data
