use Rattle.std.proofs.Common.{◌≡◌, ◌-◌, ◌≤◌, [], vec_len, vec_capacity}
use Rattle.hpr_forest.specs.Choices.{Follows}
use Rattle.hpr_forest.specs.Marks.{IsMarksOf}
use Rattle.hpr_forest.specs.Pending.{IsPending}
use Rattle.hpr_forest.specs.Remaining.{can_of}
use Rattle.hpr_forest.proofs.filling.fill.Given as goal

abbrev pub invariant-fill : goal.invariant-fill
invariant-fill l = record {
  row : vec_len l.marks ≡ vec_len l.blocks.parents;
  marked : IsMarksOf l.marks.items l.placed.items;
  pending : IsPending l.blocks l.placed.items l.pending;
  front : Follows (can_of l.blocks) [] l.placed.items;
  len : vec_len l.placed ≤ vec_len l.blocks.parents;
  room : vec_len l.blocks.parents ≤ vec_capacity l.placed;
}

abbrev pub decreases-fill : goal.decreases-fill
decreases-fill l = vec_len l.blocks.parents - vec_len l.placed
