use Rattle.std.proofs.Common.{ap, ◌∙◌}
use Rattle.std.proofs.lemmas.Result.{IfOk-weaker}
use Rattle.serde_json.specs.Written.{has_float}
use Rattle.hpr_json.proofs.Whole.{verdict_whole}
use Rattle.hpr_json.proofs.verdicts.verdict_value.Goals as goal

pub returns-clause-whole : goal.returns-clause-whole
returns-clause-whole c = IfOk-weaker c.judged_value.result _ _ (λ value is. ap has_float is ∙ verdict_whole c.args.verdict.now) c.judged_value.ensures
