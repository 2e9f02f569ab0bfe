use Rattle.std.proofs.Common.{◌≤◌, ◌<◌, length}
use Rattle.hpr_order.specs.Lifting.{IsUnder, level_of}
use Rattle.hpr_order.proofs.lift.climbed.Given as goal

abbrev pub invariant-climb : goal.invariant-climb
invariant-climb l = record {
  within : l.at < length l.items;
  level : l.level ≤ level_of l.levels l.at;
  under : IsUnder l.items l.at l.item;
}

abbrev pub decreases-climb : goal.decreases-climb
decreases-climb l = level_of l.levels l.at
