-- A row of marks beside a list of numbers.
--
-- is_in xs c              == whether c stands in the list
-- IsMarksOf marks placed  == the row has a mark at exactly the numbers of the list
use Rattle.std.specs.Prelude.{◌≡◌, ℕ, Bool, true, false, cond, eqb, List, [], ◌∷◌, get_or}

abbrev pub is_in : List ℕ → ℕ → Bool
is_in [] c = false
is_in (x ∷ xs) c = cond (eqb x c) true (is_in xs c)

abbrev pub IsMarksOf : List Bool → List ℕ → Type 0
IsMarksOf marks placed = (x : ℕ) → get_or marks x false ≡ is_in placed x
