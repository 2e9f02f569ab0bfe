use Rattle.std.proofs.Common.{◌++◌, ◌∙◌, codes, ap₂, ℕ, List}
use Rattle.hpr_conflicts.specs.Sentences.{flow_text, meaning_by, shown}
use Rattle.hpr_conflicts.proofs.Pieces.{three}
use Rattle.hpr_conflicts.proofs.words.carried_text.Goals as goal

pub returns : goal.returns
unfolding meaning_by
returns c =
    let turn = codes " of an earlier turn of " in
    c.in_ok-format.ensures.ok ∙ ap₂ (λ (a b : List ℕ). a ++ (turn ++ b)) c.in_ok-flow.ensures c.in_ok-carrier.ensures
    ∙ three (flow_text c.args.name.now c.args.from.now c.args.to.now) turn (shown c.args.by.now)
