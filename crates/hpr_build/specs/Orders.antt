-- The order between definitions, by number.
--
-- IsBefore places p q == the part p stands to the left of the part q, and no conditional has them in
--                        different branches
use Rattle.std.specs.Prelude.{ℕ, ◌<◌, List}
use Rattle.hpr_build.specs.Places.{Place, IsParted}

abbrev pub IsBefore : List Place → ℕ → ℕ → Type 0
IsBefore places p q = (p < q) × ¬ IsParted places p q
