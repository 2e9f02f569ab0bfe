use Rattle.std.specs.Option.{option_copied}
use Rattle.hpr_order.proofs.Places.{IsLeastTo}
use Rattle.hpr_order.proofs.tree.least_impossible.Given as goal

abbrev pub invariant-loop-at : goal.invariant-loop-at
invariant-loop-at l = IsLeastTo l.graph l.at (option_copied l.least)
