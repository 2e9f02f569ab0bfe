use Rattle.std.proofs.Common.{◌≡◌, ◌<◌, length}
use Rattle.hpr_order.specs.Lifting.{IsUnder, level_of}
use Rattle.hpr_order.proofs.lift.siblings.Given as goal

abbrev pub invariant-climb : goal.invariant-climb
invariant-climb l = record {
  first : l.a < length l.items;
  second : l.b < length l.items;
  level : level_of l.levels l.a ≡ level_of l.levels l.b;
  differ : ¬ (l.a ≡ l.b);
  under_first : IsUnder l.items l.a l.first;
  under_second : IsUnder l.items l.b l.second;
}

abbrev pub decreases-climb : goal.decreases-climb
decreases-climb l = level_of l.levels l.a
