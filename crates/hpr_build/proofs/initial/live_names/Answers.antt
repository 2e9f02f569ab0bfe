use Rattle.std.proofs.lemmas.Result.{IfOk-weaker}
use Rattle.hpr_build.proofs.InitialNames.{from_none}
use Rattle.hpr_build.proofs.initial.live_names.Goals as goal

pub returns-clause-exact : goal.returns-clause-exact
returns-clause-exact c = IfOk-weaker c.in_order.result _ _ (λ v same x. from_none x c.new-live.result.items _ _ _ c.new-live.ensures.items (c.in_ok-push_live.ensures x) (same x)) c.in_order.ensures.same
