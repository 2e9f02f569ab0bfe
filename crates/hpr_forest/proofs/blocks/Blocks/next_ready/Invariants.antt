use Rattle.std.proofs.Common.{◌≡◌, ◌-◌, ◌<◌, ◌≤◌, ℕ, false, length}
use Rattle.hpr_forest.specs.Remaining.{forest_of}
use Rattle.hpr_forest.specs.Open.{can_under}
use Rattle.hpr_forest.proofs.blocks.Blocks.next_ready.Given as goal

abbrev pub invariant-seek : goal.invariant-seek
invariant-seek l = record {
  from : l.from ≤ l.at;
  least : (d : ℕ) → l.from ≤ d → d < l.at → can_under (forest_of l.self) l.placed l.under d ≡ false;
}

abbrev pub decreases-seek : goal.decreases-seek
decreases-seek l = length l.pending.ready - l.at
