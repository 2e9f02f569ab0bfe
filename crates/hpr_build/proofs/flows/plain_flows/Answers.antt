use Rattle.std.proofs.Common.{◌∙◌, ap, map}
use Rattle.std.proofs.lemmas.List.{take_all}
use Rattle.hpr_build.proofs.Once.{map_more}
use Rattle.hpr_build.proofs.UserFlows.{plain}
use Rattle.hpr_build.proofs.flows.plain_flows.Goals as goal

pub loop-point-preserved : goal.loop-point-preserved
loop-point-preserved c =
    map_more plain c.args.reached.now c.loop-point.point-index 0 c.loop-point.flows.items c.push.new.self.items c.loop-point-test.true c.loop-point.invariant c.in_ok-push.ensures.items

pub returns : goal.returns
returns c = c.loop-point.invariant ∙ ap (map plain) (take_all c.loop-point.point-index c.args.reached.now c.loop-point-test.false)
