use Rattle.hpr_build.proofs.Once.{once_after}
use Rattle.hpr_build.proofs.lists.push_if.Goals as goal

pub returns-in_ok-push-clause-once : goal.returns-in_ok-push-clause-once
returns-in_ok-push-clause-once g c = λ once new. once_after _ _ c.args.item once new c.in_ok-push.ensures.items
