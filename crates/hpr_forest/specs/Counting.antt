-- How many numbers of each row of a table are still to be placed.
--
-- Table                   == rows of numbers
-- row_of rows k           == the row k of the table, empty past its end
-- one_if b                == 1 where b is true, and else 0
-- occurrences xs x        == how often x stands in the list
-- left_in placed xs       == how many of these aren't placed, each counted as often as it stands there
-- AreOfRows rows          == each number in the table is that of a row
-- AreTurned rows turned   == k stands in the row d of the one as often as d in the row k of the other
-- AreCounts rows placed c == how many numbers of each row aren't placed, beside the table turned round
use Rattle.std.specs.Prelude.{◌≡◌, ℕ, ◌+◌, ◌<◌, ◌^◌, Bool, true, false, cond, eqb, List, [], ◌∷◌, Contains, Vec, length, get_or, slice_get}
use Rattle.std.specs.Global.{Global}
use Rattle.hpr_forest.specs.Blocks.{row_at}
use Rattle.hpr_forest.specs.Marks.{is_in}
use Rattle.hpr_forest.specs.declared.counts.Counts.{Counts}

abbrev pub Table : Type 0
Table = List (Vec ℕ Global)

abbrev pub row_of : Table → ℕ → List ℕ
row_of rows k = row_at (slice_get rows k)

abbrev pub one_if : Bool → ℕ
one_if true = 1
one_if false = 0

abbrev pub occurrences : List ℕ → ℕ → ℕ
occurrences [] x = 0
occurrences (y ∷ ys) x = one_if (eqb y x) + occurrences ys x

abbrev pub left_in : List ℕ → List ℕ → ℕ
left_in placed [] = 0
left_in placed (y ∷ ys) = cond (is_in placed y) 0 1 + left_in placed ys

abbrev pub AreOfRows : Table → Type 0
AreOfRows rows = (k d : ℕ) → Contains (row_of rows k) d → d < length rows

abbrev pub AreTurned : Table → Table → Type 0
AreTurned rows turned = (d k : ℕ) → occurrences (row_of turned d) k ≡ occurrences (row_of rows k) d

pub record AreCounts (rows : Table) (placed : List ℕ) (c : Counts) : Type 0 where
  pub count : length c.left.items ≡ length rows
  pub turned_count : length c.rows_with.items ≡ length rows
  pub turned : AreTurned rows c.rows_with.items
  pub room : (k : ℕ) → length (row_of rows k) < 2 ^ 64
  pub each : (k : ℕ) → get_or c.left.items k 0 ≡ left_in placed (row_of rows k)
