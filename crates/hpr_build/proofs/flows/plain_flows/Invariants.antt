use Rattle.std.proofs.Common.{◌≡◌, map, take}
use Rattle.hpr_build.proofs.UserFlows.{plain}
use Rattle.hpr_build.proofs.flows.plain_flows.Given as goal

abbrev pub invariant-loop-point : goal.invariant-loop-point
invariant-loop-point l = l.flows.items ≡ map plain (take l.point-index l.reached)
