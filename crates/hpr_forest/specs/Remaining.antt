-- The orders of a forest that are still to come, by the next of them.
--
-- forest_of b                == the forest that the tables give
-- can_of b placed c          == whether the item c may be placed next
-- remaining b placed more    == where there are more, the placed order and all after it; else none
-- IsNext b placed more       == where there are more, the placed list is an order of all items
-- IsState b placed marks more == placed is the next order, with its marks and with room for all items
use Rattle.std.specs.Prelude.{◌≡◌, ℕ, ◌≤◌, Bool, true, false, List, [], ◌∷◌, Vec, vec_len, vec_capacity, length}
use Rattle.std.specs.Global.{Global}
use Rattle.hpr_forest.specs.Choices.{Follows}
use Rattle.hpr_forest.specs.Marks.{IsMarksOf}
use Rattle.hpr_forest.specs.Leaves.{after}
use Rattle.hpr_forest.specs.Forest.{Forest, can}
use Rattle.hpr_forest.specs.Blocks.{forest_in}
use Rattle.hpr_forest.specs.declared.blocks.Blocks.{Blocks}

abbrev pub forest_of : Blocks → Forest
forest_of b = forest_in b.parents.items b.children.items b.before.items

abbrev pub can_of : Blocks → List ℕ → ℕ → Bool
can_of b = can (forest_of b)

abbrev pub remaining : Blocks → List ℕ → Bool → List (List ℕ)
remaining b placed true = placed ∷ after (can_of b) (vec_len b.parents) placed
remaining b placed false = []

abbrev pub IsNext : Blocks → List ℕ → Bool → Type 0
IsNext b placed true = (length placed ≡ vec_len b.parents) × Follows (can_of b) [] placed
IsNext b placed false = Unit {0}

pub record IsState (b : Blocks) (placed : Vec ℕ Global) (marks : Vec Bool Global) (more : Bool) : Type 0 where
  pub next : IsNext b placed.items more
  pub room : vec_len b.parents ≤ vec_capacity placed
  pub row : vec_len marks ≡ vec_len b.parents
  pub marked : IsMarksOf marks.items placed.items
