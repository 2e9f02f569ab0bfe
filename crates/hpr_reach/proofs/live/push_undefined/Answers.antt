use Rattle.std.proofs.Common.{Contains, ◌↔◌}
use Rattle.std.proofs.lemmas.Result.{on_ok_weaker}
use Rattle.hpr_paths.specs.Spots.{UsesAt}
use Rattle.hpr_reach.proofs.Grown.{used_turn}
use Rattle.hpr_reach.proofs.live.push_undefined.Goals as goal

pub returns : goal.returns
returns c = on_ok_weaker c.push_others.result (λ h x.
    let uses : Contains c.as_slice.result.now x ↔ UsesAt c.args.succ.now c.args.point x = rw c.as_slice.ensures.value (c.in_ok-used.ensures.uses x) in
    used_turn _ _ (UsesAt c.args.succ.now c.args.point x) (UsesAt c.args.succ.now c.args.point x) (¬ Contains c.args.defined.now x) (Contains c.as_slice.result.now x) uses (h x)) c.push_others.ensures
