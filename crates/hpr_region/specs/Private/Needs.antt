-- How often what is placed is still needed: a count for each group of items that define one variable in one
-- block.
--
-- one_if b              == 1 where b is true, and else 0
-- total f xs            == the sum of f over the list
-- occurrences xs x      == how often x stands in the list
-- is_rival t a b        == whether both stand in one block and define one variable
-- group_of r k          == the number of the group of the item k, none where it defines no variable
-- sources_of r k        == the items from which an independent flow edge goes into k, each as often as k is
--                          among its readers
-- AreRivals t r         == groups and sources are those of the items
-- left_over t placed c  == how many readers of c in its block are neither c nor placed
-- is_open t placed d u  == whether u is an item of the block of d that is not placed
-- open_readers t placed d == how many readers of d are so
-- needed t r placed g items == how many open readers the items of the group g among these have
-- tie t r placed c d    == the group of d, where d is placed in the block of c
-- tied t r placed c g ds == how many of these items d have the group g so
-- AreReleased t r placed c ds old new == the count of each group is less by what is tied of these items
-- AreRestored t r placed c ds old new == it is more by that
-- AreNeeds t r placed needs == the count of each group is that of the placed items
use Rattle.std.specs.Prelude.{◌≡◌, ℕ, ◌+◌, ◌<◌, Bool, true, false, cond, eqb, Option, Some, None, List, [], ◌∷◌, length, get_or, slice_get, vec_len}
use Rattle.hpr_forest.specs.Blocks.{row_at}
use Rattle.hpr_forest.specs.Marks.{is_in}
use Rattle.hpr_region.specs.declared.flows.Flows.{Flows}
use Rattle.hpr_region.specs.declared.rivals.Rivals.{Rivals}
use Rattle.hpr_region.specs.Flows.{is_left, readers_of, same_block, same_variable, variable_of}

abbrev pub one_if : Bool → ℕ
one_if true = 1
one_if false = 0

abbrev pub total : (ℕ → ℕ) → List ℕ → ℕ
total f [] = 0
total f (x ∷ xs) = f x + total f xs

abbrev pub occurrences : List ℕ → ℕ → ℕ
occurrences xs x = total (λ y. one_if (eqb y x)) xs

abbrev pub group_of : Rivals → ℕ → Option ℕ
group_of r k = get_or r.groups.items k None

abbrev pub sources_of : Rivals → ℕ → List ℕ
sources_of r k = row_at (slice_get r.sources.items k)

module _ (t : Flows) where
  abbrev pub is_rival : ℕ → ℕ → Bool
  is_rival a b = cond (same_block t a b) (same_variable (variable_of t a) (variable_of t b)) false

  pub record AreRivals (r : Rivals) : Type 0 where
    pub group_count : vec_len r.groups ≡ vec_len t.slots
    pub source_count : vec_len r.sources ≡ vec_len t.slots
    pub within : (k g : ℕ) → group_of r k ≡ Some g → g < vec_len t.slots
    pub groups : (a b : ℕ) → same_variable (group_of r a) (group_of r b) ≡ is_rival a b
    pub sources : (d u : ℕ) → occurrences (sources_of r u) d ≡ occurrences (readers_of t d) u

  abbrev pub left_over : List ℕ → ℕ → List ℕ → ℕ
  left_over placed c us = total (λ u. one_if (is_left t placed c u)) us

  abbrev pub is_open : List ℕ → ℕ → ℕ → Bool
  is_open placed d u = cond (is_in placed u) false (same_block t d u)

  abbrev pub open_readers : List ℕ → ℕ → ℕ
  open_readers placed d = total (λ u. one_if (is_open placed d u)) (readers_of t d)

  module _ (r : Rivals) where
    abbrev pub in_group : ℕ → ℕ → Bool
    in_group g d = same_variable (group_of r d) (Some g)

    abbrev pub needed : List ℕ → ℕ → List ℕ → ℕ
    needed placed g items = total (λ d. cond (in_group g d) (open_readers placed d) 0) items

    abbrev pub tie : List ℕ → ℕ → ℕ → Option ℕ
    tie placed c d = cond (is_in placed d) (cond (same_block t d c) (group_of r d) None) None

    abbrev pub tied : List ℕ → ℕ → ℕ → List ℕ → ℕ
    tied placed c g ds = total (λ d. one_if (same_variable (tie placed c d) (Some g))) ds

    abbrev pub AreReleased : List ℕ → ℕ → List ℕ → List ℕ → List ℕ → Type 0
    AreReleased placed c ds old new = (g : ℕ) → g < vec_len t.slots → get_or new g 0 + tied placed c g ds ≡ get_or old g 0

    abbrev pub AreRestored : List ℕ → ℕ → List ℕ → List ℕ → List ℕ → Type 0
    AreRestored placed c ds old new = (g : ℕ) → g < vec_len t.slots → get_or new g 0 ≡ get_or old g 0 + tied placed c g ds

    pub record AreNeeds (placed needs : List ℕ) : Type 0 where
      pub count : length needs ≡ vec_len t.slots
      pub each : (g : ℕ) → g < vec_len t.slots → get_or needs g 0 ≡ needed placed g placed
