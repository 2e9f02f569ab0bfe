use Rattle.std.proofs.Common.{◌↔◌, ◌⊎◌, ℕ, List, Contains, take}
use Rattle.hpr_reach.specs.Live.{IsLive}
use Rattle.hpr_reach.proofs.live.push_live.Given as goal

abbrev pub invariant-loop-at : goal.invariant-loop-at
invariant-loop-at l = (x : List ℕ) → Contains l.into.items x ↔ (Contains l.fn.into.items x ⊎ (Contains (take l.at l.names) x × IsLive l.succ x))
