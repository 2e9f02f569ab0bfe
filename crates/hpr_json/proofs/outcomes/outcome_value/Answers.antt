use Rattle.std.proofs.Common.{ap, ◌∙◌}
use Rattle.std.proofs.lemmas.Result.{IfOk-weaker}
use Rattle.serde_json.specs.Written.{has_float}
use Rattle.hpr_syntax.specs.Run.{ends}
use Rattle.hpr_json.proofs.Whole.{outcome_whole}
use Rattle.hpr_json.proofs.outcomes.outcome_value.Goals as goal

pub returns-in-Ends-clause-whole : goal.returns-in-Ends-clause-whole
returns-in-Ends-clause-whole c = IfOk-weaker c.ended_value.result _ _ (λ value is. ap has_float is ∙ outcome_whole (ends c.list.result.now c.in-Ends.steps)) c.ended_value.ensures
