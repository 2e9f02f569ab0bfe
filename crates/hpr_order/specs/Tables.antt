-- The tables of the forest that the items make.
--
-- IsAskedAt asked x d       == d stands in the row of x: the sibling d must come before x
-- AreSiblingRows items asked == rows for all items, with siblings alone in them
-- AreLifted items pairs asked == the rows have what the pairs say of siblings, and each pair is one that can
--                                be
-- AreLatest asked latest    == an entry for each item: none, or a row in which the item stands
-- AreListed rows lists      == the lists have the numbers of the rows
-- AreChildRows items rows   == for each item those that stand under it
-- IsFirstOf u v             == the slots are the first and the second block of one item
-- MustPrecede items asked d x == d stands in the row of x, or in the first block of an item in whose second x
--                                stands
-- AreWithFirst items n old new == the rows of the first n items have the items of the first block more, where
--                                 the item is of a second
-- AreTablesOf items asked b == the tables say under what each item stands, and what must come before it
use Rattle.std.specs.Prelude.{◌≡◌, ℕ, ◌<◌, ◌⊎◌, ◌↔◌, true, false, Option, Some, List, Contains, Vec, length, vec_len, slice_get}
use Rattle.std.specs.Global.{Global}
use Rattle.hpr_search.specs.Rows.{numbers_at}
use Rattle.hpr_forest.specs.declared.blocks.Blocks.{Blocks}
use Rattle.hpr_forest.specs.Forest.{IsForest}
use Rattle.hpr_forest.specs.Blocks.{parent_at, row_at}
use Rattle.hpr_forest.specs.Remaining.{forest_of}
use Rattle.hpr_forest.specs.Trees.{Slot}
use Rattle.hpr_order.specs.declared.item.Item.{Item}
use Rattle.hpr_order.specs.Items.{slot_at}
use Rattle.hpr_order.specs.Lifting.{IsBelow, IsPairOver, parent_in}

abbrev pub IsAskedAt : List (List ℕ) → ℕ → ℕ → Type 0
IsAskedAt asked x d = Contains (numbers_at asked x) d

pub record AreSiblingRows (items : List Item) (asked : List (List ℕ)) : Type 0 where
  pub count : length asked ≡ length items
  pub siblings : (x d : ℕ) → IsAskedAt asked x d → (d < length items) × (x < length items) × (parent_in items d ≡ parent_in items x)

pub record AreLifted (items : List Item) (pairs : List (ℕ × ℕ)) (asked : List (List ℕ)) : Type 0 where
  pub count : length asked ≡ length items
  pub sound : (x d : ℕ) → IsAskedAt asked x d → (s t : ℕ) × Contains pairs (s, t) × IsPairOver items d x s t
  pub complete : (s t : ℕ) → Contains pairs (s, t)
      → ((s ≡ t) ⊎ IsBelow items s t) ⊎ ((x d : ℕ) × IsAskedAt asked x d × IsPairOver items d x s t)

pub record AreLatest (asked : List (List ℕ)) (latest : List (Option ℕ)) : Type 0 where
  pub count : length latest ≡ length asked
  pub there : (d x : ℕ) → slice_get latest d ≡ Some (Some x) → IsAskedAt asked x d

pub record AreListed (rows : List (List ℕ)) (lists : List (Vec ℕ Global)) : Type 0 where
  pub count : length lists ≡ length rows
  pub same : (k : ℕ) → k < length rows → row_at (slice_get lists k) ≡ numbers_at rows k

pub record AreChildRows (items : List Item) (rows : List (Vec ℕ Global)) : Type 0 where
  pub count : length rows ≡ length items
  pub children : (k : ℕ) → k < length items → (x : ℕ) → Contains (row_at (slice_get rows k)) x ↔ ((x < length items) × (parent_in items x ≡ Some k))

abbrev pub IsFirstOf : Slot → Slot → Type 0
IsFirstOf u v = (c : ℕ) × (u ≡ Some (c, true)) × (v ≡ Some (c, false))

abbrev pub MustPrecede : List Item → List (List ℕ) → ℕ → ℕ → Type 0
MustPrecede items asked d x = (d < length items) × (IsAskedAt asked x d ⊎ IsFirstOf (slot_at items d) (slot_at items x))

abbrev pub AreWithFirst : List Item → ℕ → List (List ℕ) → List (List ℕ) → Type 0
AreWithFirst items n old new = (x d : ℕ) → IsAskedAt new x d ↔ (IsAskedAt old x d ⊎ ((x < n) × IsFirstOf (slot_at items d) (slot_at items x)))

pub record AreTablesOf (items : List Item) (asked : List (List ℕ)) (b : Blocks) : Type 0 where
  pub forest : IsForest (forest_of b)
  pub count : vec_len b.parents ≡ length items
  pub parents : (k : ℕ) → parent_at (slice_get b.parents.items k) ≡ parent_in items k
  pub before : (x d : ℕ) → Contains (row_at (slice_get b.before.items x)) d ↔ ((x < length items) × MustPrecede items asked d x)
