-- Whether a search has anything to place.
--
-- IsOpen items b        == the items have a whole order by the tables, and each serial is at least 1
-- IsShut items choices  == there are no tables, or no whole order by them, or a serial is 0
use Rattle.std.specs.Prelude.{◌≡◌, ℕ, ◌≤◌, ◌⊎◌, Option, Some, None, List, vec_len, slice_get}
use Rattle.hpr_forest.specs.declared.blocks.Blocks.{Blocks}
use Rattle.hpr_forest.specs.Choices.{IsWhole}
use Rattle.hpr_forest.specs.Remaining.{can_of}
use Rattle.hpr_order.specs.declared.item.Item.{Item}

abbrev pub IsOpen : List Item → Blocks → Type 0
IsOpen items b =
    ((l : List ℕ) × IsWhole (can_of b) (vec_len b.parents) l) × ((k : ℕ) (i : Item) → slice_get items k ≡ Some i → 1 ≤ i.tag.serial)

abbrev pub IsShut : List Item → Option Blocks → Type 0
IsShut items None = Unit {0}
IsShut items (Some b) =
    ((l : List ℕ) → ¬ IsWhole (can_of b) (vec_len b.parents) l) ⊎ ((k : ℕ) × (i : Item) × (slice_get items k ≡ Some i) × (i.tag.serial ≡ 0))
