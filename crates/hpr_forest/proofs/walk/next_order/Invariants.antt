use Rattle.std.proofs.Common.{◌≡◌, ◌≤◌, [], vec_len, vec_capacity}
use Rattle.hpr_forest.specs.Marks.{IsMarksOf}
use Rattle.hpr_forest.specs.Choices.{Follows}
use Rattle.hpr_forest.specs.Leaves.{after}
use Rattle.hpr_forest.proofs.walk.next_order.Given as goal

abbrev pub invariant-loop-last : goal.invariant-loop-last
invariant-loop-last g l =
    (vec_len l.marks ≡ vec_len l.initial.marks)
    × IsMarksOf l.marks.items l.placed.items
    × Follows (g.T.Choices.can l.choices) [] l.placed.items
    × (vec_len l.placed ≤ g.T.Choices.size l.choices)
    × (vec_capacity l.placed ≡ vec_capacity l.initial.placed)
    × (after (g.T.Choices.can l.choices) (g.T.Choices.size l.choices) l.placed.items ≡ after (g.T.Choices.can l.choices) (g.T.Choices.size l.choices) l.initial.placed.items)

abbrev pub decreases-loop-last : goal.decreases-loop-last
decreases-loop-last g l = vec_len l.placed
