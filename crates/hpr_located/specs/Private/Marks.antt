-- Marks: bytes with their lines and columns.
--
-- mark_at bytes n == the byte n of the text, with its line and its column
use Rattle.std.specs.Prelude.{ℕ, List}
use Rattle.hpr_places.specs.Lines.{line_at, column_at}
use Rattle.hpr_located.specs.declared.marks.Mark.{Mark}

abbrev pub mark_at : List ℕ → ℕ → Mark
mark_at bytes n = record { byte = n; line = line_at bytes n; column = column_at bytes n }
