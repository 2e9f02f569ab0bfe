-- Rows of marks, one a point.
--
-- IsMarked marks p               == the row marks p
-- mark_count marks               == how many points are marked
-- IsRowOf marks order            == the marked points are exactly those of the list, which has each of them
--                                   once
-- Visited old points n marks order == the row of n marks and its list, after the list `old` got those of the
--                                     points that it hadn't
use Rattle.std.specs.Prelude.{◌≡◌, ℕ, suc, Bool, true, false, ◌⊎◌, List, [], ◌∷◌, ◌++◌, length, slice_get, slice_index_or, Some, Contains, if◌then◌else◌}

abbrev pub IsMarked : List Bool → ℕ → Type 0
IsMarked marks p = slice_index_or marks p false ≡ true

abbrev pub mark_count : List Bool → ℕ
mark_count [] = 0
mark_count (mark ∷ marks) = if mark then suc (mark_count marks) else mark_count marks

pub record IsRowOf (marks : List Bool) (order : List ℕ) : Type 0 where
  pub count : mark_count marks ≡ length order
  pub listed : (p : ℕ) → IsMarked marks p → Contains order p
  pub marked : (p : ℕ) → Contains order p → IsMarked marks p
  pub once : (i j p : ℕ) → slice_get order i ≡ Some p → slice_get order j ≡ Some p → i ≡ j

pub record Visited (old points : List ℕ) (n : ℕ) (marks : List Bool) (order : List ℕ) : Type 0 where
  pub size : length marks ≡ n
  pub row : IsRowOf marks order
  pub more : List ℕ
  pub kept : order ≡ old ++ more
  pub cases : (p : ℕ) → Contains order p → Contains old p ⊎ Contains points p
  pub all : (p : ℕ) → Contains points p → Contains order p
