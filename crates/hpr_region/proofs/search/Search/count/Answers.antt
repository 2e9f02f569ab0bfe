use Rattle.std.proofs.Common.{[], subst}
use Rattle.hpr_forest.specs.Choices.{Follows}
use Rattle.hpr_region.specs.Plans.{State, may_follow}
use Rattle.hpr_region.proofs.search.Search.count.Goals as goal

pub returns-clause-front : goal.returns-clause-front
returns-clause-front c = subst (λ (z : State). Follows (may_follow z.plan) [] z.placed) c.self.view_is c.self.invariant.front
