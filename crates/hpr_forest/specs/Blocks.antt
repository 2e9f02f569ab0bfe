-- The forest that tables give.
--
-- parent_at p                        == the entry of the table, the top past its end
-- row_at row                         == the row of the table, empty past its end
-- forest_in parents children before  == the forest of these tables, a row for each item
use Rattle.std.specs.Prelude.{ℕ, Option, Some, None, List, [], Vec, slice_get, length}
use Rattle.std.specs.Global.{Global}
use Rattle.hpr_forest.specs.Forest.{Forest}

abbrev pub parent_at : Option (Option ℕ) → Option ℕ
parent_at None = None
parent_at (Some p) = p

abbrev pub row_at : Option (Vec ℕ Global) → List ℕ
row_at None = []
row_at (Some row) = row.items

abbrev pub forest_in : List (Option ℕ) → List (Vec ℕ Global) → List (Vec ℕ Global) → Forest
forest_in parents children before = record {
  count = length parents;
  parent = λ x. parent_at (slice_get parents x);
  children = λ x. row_at (slice_get children x);
  before = λ x. row_at (slice_get before x);
}
