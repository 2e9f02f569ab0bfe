-- Conflicts in groups: those of one variant that one edge explains. A group is known by its number, from 0
-- in the order of the first conflicts.
--
-- AreAlike c d         == the conflicts are of one variant, and one edge explains them
-- AreNumbers cs ns m   == for each conflict the number of its group: alike conflicts have one number, each of
--                         the m numbers is used, and none before the lesser ones are
-- AreRows ns m rows    == for each of the m numbers the places at which it stands, ascending
use Rattle.std.specs.Prelude.{◌≡◌, ℕ, ◌<◌, ◌↔◌, Some, List, Contains, length, slice_get}
use Rattle.std.specs.List.Sorted.{IsStrictlyIncreasing}
use Rattle.hpr_graph.specs.declared.conflict.ManyConflict.{ManyConflict}

abbrev pub AreAlike : ManyConflict → ManyConflict → Type 0
AreAlike c d = (c.variant ≡ d.variant) × (c.edge ≡ d.edge)

pub record AreNumbers (cs : List ManyConflict) (ns : List ℕ) (m : ℕ) : Type 0 where
  pub count : length ns ≡ length cs
  pub alike : (i j g h : ℕ) (c d : ManyConflict) → slice_get cs i ≡ Some c → slice_get cs j ≡ Some d
      → slice_get ns i ≡ Some g → slice_get ns j ≡ Some h → (g ≡ h) ↔ AreAlike c d
  pub within : (g : ℕ) → Contains ns g → g < m
  pub used : (g : ℕ) → g < m → Contains ns g
  pub first : (i g h : ℕ) → slice_get ns i ≡ Some h → g < h → (j : ℕ) × (j < i) × (slice_get ns j ≡ Some g)

pub record AreRows (ns : List ℕ) (m : ℕ) (rows : List (List ℕ)) : Type 0 where
  pub count : length rows ≡ m
  pub places : (g : ℕ) (row : List ℕ) → slice_get rows g ≡ Some row
      → (i : ℕ) → Contains row i ↔ (slice_get ns i ≡ Some g)
  pub ascend : (row : List ℕ) → Contains rows row → IsStrictlyIncreasing row
