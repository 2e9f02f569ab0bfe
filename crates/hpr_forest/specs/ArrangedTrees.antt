-- Arranged trees: each item once, in its own slot, in an order that respects what is asked.
--
-- IsArrangedTree n slot E t  == t has each of the items below n exactly once, each in its slot, and its
--                               preorder respects E
-- AndBlocks slot E s t       == E s t, or s stands in the first and t in the second block of one item
-- Earlier s t                == the preorder of s comes before that of t
use Rattle.std.specs.Prelude.{◌≡◌, ℕ, ◌<◌, true, false, Some, None, length, Contains, ◌⊎◌}
use Rattle.hpr_forest.specs.Lists.{LexLess}
use Rattle.hpr_forest.specs.Forest.{IsDistinct}
use Rattle.hpr_forest.specs.Trees.{Tree, preorder, Slot, StandsIn}
use Rattle.hpr_forest.specs.Lifted.{Respects}

pub record IsArrangedTree (n : ℕ) (slot : ℕ → Slot) (E : ℕ → ℕ → Type 0) (t : Tree) : Type 0 where
  pub stands : StandsIn slot None t
  pub len : length (preorder t) ≡ n
  pub once : IsDistinct (preorder t)
  pub within : (x : ℕ) → Contains (preorder t) x → x < n
  pub all : (x : ℕ) → x < n → Contains (preorder t) x
  pub respects : Respects E (preorder t)

abbrev pub AndBlocks : (ℕ → Slot) → (ℕ → ℕ → Type 0) → ℕ → ℕ → Type 0
AndBlocks slot E s t = E s t ⊎ ((x : ℕ) × (slot s ≡ Some (x, true)) × (slot t ≡ Some (x, false)))

abbrev pub Earlier : Tree → Tree → Type 0
Earlier s t = LexLess (preorder s) (preorder t)
