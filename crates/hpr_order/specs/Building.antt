-- Blocks that are built from the last part to the first.
--
-- Branches, Pending       == what stands so far in the two blocks of an item, and at the top with the blocks
--                            of all items; the last part first
-- row_in both first       == the statements of the first (true) or the second block of an item
-- row_at p v              == the statements that stand so far in a slot, the last first
-- body_at p v             == the block that they are
-- IsFree order v          == the slot is at the top, or one of an item that isn't in this order
-- IsSlot n v              == the slot is at the top, or one of an item below n
-- AreBlocks items order p == each slot that is free has the block of the items in this order
use Rattle.std.specs.Prelude.{◌≡◌, ℕ, ◌<◌, Bool, true, false, Option, Some, None, List, [], Contains, length, slice_get, reverse}
use Rattle.hpr_syntax.specs.Body.{Body}
use Rattle.hpr_syntax.specs.BodyOf.{body_of}
use Rattle.hpr_syntax.specs.declared.tree.Stmt.{Stmt}
use Rattle.hpr_forest.specs.Trees.{Slot}
use Rattle.hpr_order.specs.declared.item.Item.{Item}
use Rattle.hpr_order.specs.declared.building.Branches.{Branches}
use Rattle.hpr_order.specs.declared.building.Pending.{Pending}
use Rattle.hpr_order.specs.Items.{block_at}

abbrev pub row_in : Option Branches → Bool → List Stmt
row_in None b = []
row_in (Some both) true = both.first.items
row_in (Some both) false = both.second.items

abbrev pub row_at : Pending → Slot → List Stmt
row_at p None = p.top.items
row_at p (Some (c, b)) = row_in (slice_get p.branches.items c) b

abbrev pub body_at : Pending → Slot → Body
body_at p v = body_of (reverse (row_at p v))

abbrev pub IsFree : List ℕ → Slot → Type 0
IsFree order None = Unit {0}
IsFree order (Some (c, b)) = ¬ Contains order c

abbrev pub IsSlot : ℕ → Slot → Type 0
IsSlot n None = Unit {0}
IsSlot n (Some (c, b)) = c < n

abbrev pub AreBlocks : List Item → List ℕ → Pending → Type 0
AreBlocks items order p = (v : Slot) → IsSlot (length items) v → IsFree order v → body_at p v ≡ block_at items order v
