use Rattle.std.proofs.lemmas.Result.{IfOk-weaker}
use Rattle.hpr_app.proofs.slice.left_text.Goals as goal

pub returns : goal.returns
returns c = IfOk-weaker c.text_of.result _ _ (λ bytes is. (c.in_ok-left.left, c.in_ok-left.ensures.pruned, is)) c.text_of.ensures
