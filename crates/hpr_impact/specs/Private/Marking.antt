-- How a text gets marks at the front of its lines, byte by byte.
--
-- IsLineOf place n == the place is in the line n; where there is no place none is
-- front begins m   == the mark m where a line begins
-- marked_from marks begins n bytes == the bytes with marks, of which the first stands in the line n; `begins`
--                     says that the line begins with it
use Rattle.std.specs.Prelude.{◌≡◌, ℕ, ◌+◌, ◌==◌, Option, Some, None, Bool, true, false, if◌then◌else◌, List, [], ◌∷◌, ◌++◌, slice_index_or}
use Rattle.hpr_located.specs.declared.located.Located.{Located}
use Rattle.hpr_impact.specs.Lines.{line_mark}

abbrev pub IsLineOf : Option Located → ℕ → Type 0
IsLineOf None n = ⊥
IsLineOf (Some l) n = n ≡ l.line

abbrev pub front : Bool → List ℕ → List ℕ
front true m = m
front false m = []

abbrev pub marked_from : List Bool → Bool → ℕ → List ℕ → List ℕ
marked_from marks begins n [] = []
marked_from marks begins n (b ∷ bs) =
    front begins (line_mark (slice_index_or marks n false)) ++ b ∷ marked_from marks (b == 10) (if b == 10 then n + 1 else n) bs
