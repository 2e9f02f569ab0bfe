-- The pages of an array: rows of 256 numbers, the first for the indices 0 to 255. A row without numbers
-- stands for one of zeros, and so do the rows that aren't there.
--
-- rows_of pages         == the rows as lists
-- page_of row           == the 256 numbers of a page
-- numbers_of rows       == the numbers of all pages, one after another
-- listed first numbers  == the numbers that aren't 0, with their indices, which begin with the first
-- elements_of rows      == the elements of the array
-- IsLaidOut rows        == there are 256 pages at most, and each has 256 numbers or none
use Rattle.std.specs.Prelude.{◌≡◌, ℕ, suc, ℤ, pos, ◌≤◌, ◌⊎◌, List, [], ◌∷◌, ◌++◌, Vec, length, map, replicate, get_or, if◌then◌else◌}
use Rattle.std.specs.Global.{Global}
use Rattle.std.specs.Ordering.{int_eq}
use Rattle.std.specs.FinMap.{from_entries}
use Rattle.hpr_arrays.specs.Elements.{Elements}

abbrev pub rows_of : List (Vec ℤ Global) → List (List ℤ)
rows_of pages = map (λ page. page.items) pages

abbrev pub page_of : List ℤ → List ℤ
page_of [] = replicate 256 (pos 0)
page_of (number ∷ numbers) = number ∷ numbers

abbrev pub numbers_of : List (List ℤ) → List ℤ
numbers_of [] = []
numbers_of (row ∷ rows) = page_of row ++ numbers_of rows

abbrev pub listed : ℕ → List ℤ → List (ℕ × ℤ)
listed first [] = []
listed first (number ∷ numbers) = if int_eq number (pos 0) then listed (suc first) numbers else (first, number) ∷ listed (suc first) numbers

abbrev pub elements_of : List (List ℤ) → Elements
elements_of rows = from_entries (listed 0 (numbers_of rows))

pub record IsLaidOut (rows : List (List ℤ)) : Type 0 where
  pub count : length rows ≤ 256
  pub size : (k : ℕ) → (get_or rows k [] ≡ []) ⊎ (length (get_or rows k []) ≡ 256)
