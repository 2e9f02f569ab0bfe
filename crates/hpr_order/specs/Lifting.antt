-- What the order that is asked of two items says of the siblings under which they stand.
--
-- parent_in items k         == the item under which the item k stands, if there is one
-- LeadsTo items a via k     == from a down to k through these items, each under the one before; the last is
--                              k, or k is a
-- IsUnder items a k         == the item k is a or stands under it
-- IsBelow items a k         == the item k stands under a
-- IsPairOver items a b s t  == two different siblings of which s is or stands under the first, t under the
--                              second
-- IsLift items s t lift     == where s must stand to the left of t: it always does, it never does, or the
--                              siblings over them must stand so
-- level_of levels k         == how many items stand around the item k
-- LevelUnder levels n parent == n is none at the top, else one more than around the parent
-- AreLevels items levels    == how many items stand around each item
use Rattle.std.specs.Prelude.{◌≡◌, ℕ, ◌+◌, ◌<◌, ◌⊎◌, Option, Some, None, List, [], ◌∷◌, length, get_or}
use Rattle.hpr_forest.specs.Trees.{above}
use Rattle.hpr_order.specs.declared.item.Item.{Item}
use Rattle.hpr_order.specs.declared.lift.Lift.{Lift}
use Rattle.hpr_order.specs.declared.lift.Lift.TheVariants.{Always, Never, Siblings}
use Rattle.hpr_order.specs.Items.{slot_at}

abbrev pub parent_in : List Item → ℕ → Option ℕ
parent_in items k = above (slot_at items k)

abbrev pub LeadsTo : List Item → ℕ → List ℕ → ℕ → Type 0
LeadsTo items a [] k = a ≡ k
LeadsTo items a (c ∷ via) k = (parent_in items c ≡ Some a) × LeadsTo items c via k

abbrev pub IsUnder : List Item → ℕ → ℕ → Type 0
IsUnder items a k = (via : List ℕ) × LeadsTo items a via k

abbrev pub IsBelow : List Item → ℕ → ℕ → Type 0
IsBelow items a k = (c : ℕ) × (via : List ℕ) × LeadsTo items a (c ∷ via) k

pub record IsPairOver (items : List Item) (a b s t : ℕ) : Type 0 where
  pub first : a < length items
  pub second : b < length items
  pub differ : ¬ (a ≡ b)
  pub parents : parent_in items a ≡ parent_in items b
  pub under_first : IsUnder items a s
  pub under_second : IsUnder items b t

abbrev pub IsLift : List Item → ℕ → ℕ → Lift → Type 0
IsLift items s t Always = (s ≡ t) ⊎ IsBelow items s t
IsLift items s t Never = IsBelow items t s
IsLift items s t (Siblings a b) = IsPairOver items a b s t

abbrev pub level_of : List ℕ → ℕ → ℕ
level_of levels k = get_or levels k 0

abbrev pub LevelUnder : List ℕ → ℕ → Option ℕ → Type 0
LevelUnder levels n None = n ≡ 0
LevelUnder levels n (Some p) = n ≡ level_of levels p + 1

pub record AreLevels (items : List Item) (levels : List ℕ) : Type 0 where
  pub count : length levels ≡ length items
  pub under : (k : ℕ) → k < length items → LevelUnder levels (level_of levels k) (parent_in items k)
