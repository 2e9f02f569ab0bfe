-- Rows of numbers, as a graph whose points are the rows.
--
-- numbers_at rows at     == the row with this number, empty past the last
-- numbers_of rows        == the rows as lists
-- AreWithin rows         == each number is that of a row
-- with_number rows at n  == the rows with the number n at the end of the row `at`
-- IsPushed old at n new  == the rows have the number n more in the row `at`
use Rattle.std.specs.Prelude.{◌≡◌, ℕ, ◌<◌, ◌↔◌, ◌⊎◌, List, [], ◌∷◌, ◌++◌, Contains, Vec, slice_index_or, slice_set, length, map}
use Rattle.std.specs.Global.{Global}

abbrev pub numbers_at : List (List ℕ) → ℕ → List ℕ
numbers_at rows at = slice_index_or rows at []

abbrev pub numbers_of : List (Vec ℕ Global) → List (List ℕ)
numbers_of rows = map (λ row. row.items) rows

abbrev pub AreWithin : List (List ℕ) → Type 0
AreWithin rows = (at n : ℕ) → Contains (numbers_at rows at) n → n < length rows

abbrev pub with_number : List (List ℕ) → ℕ → ℕ → List (List ℕ)
with_number rows at n = slice_set rows at (numbers_at rows at ++ n ∷ [])

abbrev pub IsPushed : List (List ℕ) → ℕ → ℕ → List (List ℕ) → Type 0
IsPushed old at n new = (from to : ℕ) → Contains (numbers_at new from) to ↔ (Contains (numbers_at old from) to ⊎ ((from ≡ at) × (to ≡ n)))
