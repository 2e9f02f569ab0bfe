use Rattle.std.proofs.Common.{◌≡◌, ◌-◌, ◌≤◌, [], vec_len, vec_capacity}
use Rattle.hpr_forest.specs.Marks.{IsMarksOf}
use Rattle.hpr_forest.specs.Choices.{Follows}
use Rattle.hpr_forest.specs.Leaves.{from_here}
use Rattle.hpr_forest.proofs.walk.first_order.Given as goal

abbrev pub invariant-loop-marks : goal.invariant-loop-marks
invariant-loop-marks g l =
    (vec_len l.marks ≡ vec_len l.initial.marks)
    × IsMarksOf l.marks.items l.placed.items
    × Follows (g.T.Choices.can l.choices) [] l.placed.items
    × (vec_len l.placed ≤ g.T.Choices.size l.choices)
    × (vec_capacity l.placed ≡ vec_capacity l.initial.placed)
    × (from_here (g.T.Choices.can l.choices) (g.T.Choices.size l.choices) l.placed.items ≡ from_here (g.T.Choices.can l.choices) (g.T.Choices.size l.choices) l.initial.placed.items)

abbrev pub decreases-loop-marks : goal.decreases-loop-marks
decreases-loop-marks g l = g.T.Choices.size l.choices - vec_len l.placed
