-- What the placed items of a forest leave to be placed.
--
-- AreOpen rows placed row == each number that isn't placed, all of whose row is, has a mark
-- IsPending b placed p    == for each item how many of those that must come before it aren't placed, and how
--                            many of those under it; and marks at the items that may come next as far as
--                            those before them go
use Rattle.std.specs.Prelude.{◌≡◌, ℕ, ◌<◌, Bool, true, false, List, length, get_or}
use Rattle.hpr_forest.specs.Forest.{all_in}
use Rattle.hpr_forest.specs.Marks.{is_in}
use Rattle.hpr_forest.specs.Counting.{AreCounts, Table, row_of}
use Rattle.hpr_forest.specs.declared.blocks.Blocks.{Blocks}
use Rattle.hpr_forest.specs.declared.pending.Pending.{Pending}

abbrev pub AreOpen : Table → List ℕ → List Bool → Type 0
AreOpen rows placed row =
    (d : ℕ) → d < length rows → is_in placed d ≡ false → all_in placed (row_of rows d) ≡ true → get_or row d false ≡ true

pub record IsPending (b : Blocks) (placed : List ℕ) (p : Pending) : Type 0 where
  pub before : AreCounts b.before.items placed p.before
  pub under : AreCounts b.children.items placed p.under
  pub ready_count : length p.ready ≡ length b.before.items
  pub ready : AreOpen b.before.items placed p.ready
