-- Groups by the rows of their places.
--
-- group_at cs c row == the group of the conflict c, whose places these are
-- IsRow cs row g    == g is the group of the conflict at the first place of the row
use Rattle.std.specs.Prelude.{◌≡◌, ℕ, List, map, slice_index, slice_index_or}
use Rattle.hpr_graph.specs.declared.conflict.ManyConflict.{ManyConflict}
use Rattle.hpr_interference.specs.Groups.{Group}

abbrev pub group_at : List ManyConflict → ManyConflict → List ℕ → Group
group_at cs c row =
    record {
      variant = c.variant;
      edge = c.edge;
      places = row;
      points = map (λ i. (slice_index_or cs i c).point) row;
    }

abbrev pub IsRow : List ManyConflict → List ℕ → Group → Type 0
IsRow cs row g = (c : ManyConflict) × (c ≡ slice_index_or cs (slice_index row 0) c) × (g ≡ group_at cs c row)
