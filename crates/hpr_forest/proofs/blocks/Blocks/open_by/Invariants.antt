use Rattle.hpr_forest.specs.Remaining.{forest_of}
use Rattle.hpr_forest.proofs.Climbed.{IsClimb, left_at}
use Rattle.hpr_forest.proofs.blocks.Blocks.open_by.Given as goal

abbrev pub invariant-climb : goal.invariant-climb
invariant-climb l = IsClimb (forest_of l.self) l.placed l.under

abbrev pub decreases-climb : goal.decreases-climb
decreases-climb l = left_at l.placed l.under
