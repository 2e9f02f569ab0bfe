use Rattle.std.proofs.Common.{◌≡◌, ◌-◌, ◌≤◌, length, take}
use Rattle.hpr_build.proofs.flows.common_count.Given as goal

abbrev pub invariant-loop-common : goal.invariant-loop-common
invariant-loop-common l = record {
  left : l.common ≤ length l.a;
  right : l.common ≤ length l.b;
  same : take l.common l.a ≡ take l.common l.b;
}

abbrev pub decreases-loop-common : goal.decreases-loop-common
decreases-loop-common l = length l.a - l.common
