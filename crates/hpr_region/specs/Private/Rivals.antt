-- How rivals are found: the items that define one variable in one block.
--
-- AreDefiners t rows  == there is a row for each variable, with the items that define it
-- first_in t ks a     == the first of these items that stands in the block of a
-- first_of t rows v a == the first item that defines the variable v in the block of a, none where there is no
--                        variable
-- group_by t rows a   == the first item that defines the variable of a in its block, by the rows of its
--                        definers
-- AreGroupsBy t rows groups == each item has its group so
-- AreTurned t n rows  == the readers of the first n items turned round: d stands in the row of u as often as
--                        u among the readers of d
use Rattle.std.specs.Prelude.{◌≡◌, ℕ, ◌<◌, ◌≤◌, ◌↔◌, cond, Option, Some, None, List, [], ◌∷◌, Vec, Contains, get_or, length}
use Rattle.std.specs.Global.{Global}
use Rattle.hpr_search.specs.Rows.{numbers_at, numbers_of}
use Rattle.hpr_region.specs.declared.flows.Flows.{Flows}
use Rattle.hpr_region.specs.Flows.{readers_of, same_block, variable_of}
use Rattle.hpr_region.specs.Private.Needs.{occurrences}

module _ (t : Flows) where
  pub record AreDefiners (rows : List (Vec ℕ Global)) : Type 0 where
    pub count : length rows ≡ t.names
    pub exact : (v k : ℕ) → Contains (numbers_at (numbers_of rows) v) k ↔ (variable_of t k ≡ Some v)

  abbrev pub first_in : List ℕ → ℕ → Option ℕ
  first_in [] a = None
  first_in (k ∷ ks) a = cond (same_block t k a) (Some k) (first_in ks a)

  abbrev pub first_of : List (Vec ℕ Global) → Option ℕ → ℕ → Option ℕ
  first_of rows None a = None
  first_of rows (Some v) a = first_in (numbers_at (numbers_of rows) v) a

  abbrev pub group_by : List (Vec ℕ Global) → ℕ → Option ℕ
  group_by rows a = first_of rows (variable_of t a) a

  abbrev pub AreGroupsBy : List (Vec ℕ Global) → List (Option ℕ) → Type 0
  AreGroupsBy rows groups = (a : ℕ) → get_or groups a None ≡ group_by rows a

  pub record AreTurned (n : ℕ) (rows : List (Vec ℕ Global)) : Type 0 where
    pub below : (d u : ℕ) → d < n → occurrences (numbers_at (numbers_of rows) u) d ≡ occurrences (readers_of t d) u
    pub above : (d u : ℕ) → n ≤ d → occurrences (numbers_at (numbers_of rows) u) d ≡ 0
