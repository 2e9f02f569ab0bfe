use Rattle.std.proofs.Common.{◌≡◌, ◌∙◌, List, ap, map, subst}
use Rattle.std.proofs.lemmas.Result.{IfOk-weaker}
use Rattle.serde_json.specs.View.{view}
use Rattle.hpr_json.specs.Answers.{json_line}
use Rattle.hpr_located.specs.Sources.{Standing, standing_of}
use Rattle.hpr_told.specs.Outcomes.{IsOutcomeTold}
use Rattle.hpr_kit.specs.Answer.{prints}
use Rattle.hpr_kit.specs.Merges.{IsToldOf}
use Rattle.hpr_kit.specs.Private.Replies.{seen}
use Rattle.hpr_kit.proofs.merge.outcome_told.Goals as goal

pub returns : goal.returns
returns c =
    let o = c.args.outcome.now in
    let d = view c.in_ok-value.value in
    let told = subst (λ (ss : List Standing). IsOutcomeTold ss o d) (ap (map standing_of) c.as_slice.ensures.value ∙ c.files_for-files.ensures) c.in_ok-value.ensures.data in
    IfOk-weaker c.print_line.result (λ reply. seen reply ≡ prints (json_line d)) (λ reply. IsToldOf o (map standing_of c.args.sources.items) (seen reply))
    (λ reply is. (d, told, is)) c.print_line.ensures
