use Rattle.std.proofs.Common.{List, Vec, ℕ, subst}
use Rattle.std.specs.Global.{Global}
use Rattle.hpr_region.specs.Private.Rivals.{AreGroupsBy}
use Rattle.hpr_region.proofs.Rivalry.{are_rivals}
use Rattle.hpr_region.proofs.rivals.Rivals.start.Goals as goal

pub returns : goal.returns
returns c =
    are_rivals c.args.flows.now c.in_ok-definers.definers.items _ c.in_ok-definers.ensures c.in_ok-groups.ensures.count
    (subst (λ (rows : List (Vec ℕ Global)). AreGroupsBy c.args.flows.now rows c.in_ok-groups.groups.items) c.deref.ensures.value c.in_ok-groups.ensures.groups)
    c.in_ok-sources.ensures.count c.in_ok-sources.ensures.turned
