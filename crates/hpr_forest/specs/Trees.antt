-- Trees of items that have two blocks each, and their preorders.
--
-- Tree                == a block: empty, or an item with its first block, its second block, and what stands
--                        behind it in the block
-- preorder t          == the items from front to back, each before those of its blocks
-- Slot                == where an item stands: at the top, or in the first (true) or the second (false) block
--                        of an item
-- same_slot u v       == whether both are the same slot
-- above v             == the item that has the slot
-- StandsIn slot v t   == t is a block in the slot v, where each item stands in its own slot
-- HasSlots f slot     == each item stands under the item of its slot, and those of a first block must come
--                        before those of the second
use Rattle.std.specs.Prelude.{◌≡◌, ℕ, Bool, true, false, eqb, Option, Some, None, List, [], ◌∷◌, ◌++◌, Contains}
use Rattle.hpr_forest.specs.Forest.{Forest}

pub data Tree : Type 0 where
  empty : Tree
  node : (item : ℕ) → (first second rest : Tree) → Tree

abbrev pub preorder : Tree → List ℕ
preorder empty = []
preorder (node c y n r) = c ∷ (preorder y ++ (preorder n ++ preorder r))

abbrev pub Slot : Type 0
Slot = Option (ℕ × Bool)

abbrev pub same_slot : Slot → Slot → Bool
same_slot None None = true
same_slot None (Some b) = false
same_slot (Some a) None = false
same_slot (Some (a, true)) (Some (b, true)) = eqb a b
same_slot (Some (a, false)) (Some (b, false)) = eqb a b
same_slot (Some (a, true)) (Some (b, false)) = false
same_slot (Some (a, false)) (Some (b, true)) = false

abbrev pub above : Slot → Option ℕ
above None = None
above (Some (p, b)) = Some p

abbrev pub StandsIn : (ℕ → Slot) → Slot → Tree → Type 0
StandsIn slot v empty = Unit {0}
StandsIn slot v (node c y n r) = (slot c ≡ v) × StandsIn slot (Some (c, true)) y × StandsIn slot (Some (c, false)) n × StandsIn slot v r

pub record HasSlots (f : Forest) (slot : ℕ → Slot) : Type 0 where
  pub parents : (x : ℕ) → f.parent x ≡ above (slot x)
  pub labels : (x d c : ℕ) → slot x ≡ Some (c, false) → slot d ≡ Some (c, true) → Contains (f.before x) d
