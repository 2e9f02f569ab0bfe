-- Where the parts of a program stand, by bytes, lines and columns.
--
-- located_at bytes q  == a part and its place, with the line and the column of its first byte
-- AreLocated bytes ls == the bytes spell a program, and these are its parts with their places, in preorder
use Rattle.std.specs.Prelude.{◌≡◌, ℕ, List, map}
use Rattle.hpr_places.specs.declared.place.Placed.{Placed}
use Rattle.hpr_places.specs.Lines.{line_at, column_at}
use Rattle.hpr_places.specs.Places.{ArePlaces}
use Rattle.hpr_located.specs.declared.located.Located.{Located}

abbrev pub located_at : List ℕ → Placed → Located
located_at bytes q =
    record { tag = q.tag; place = q.place; line = line_at bytes q.place.first; column = column_at bytes q.place.first }

abbrev pub AreLocated : List ℕ → List Located → Type 0
AreLocated bytes ls = (qs : List Placed) × ArePlaces bytes qs × (ls ≡ map (located_at bytes) qs)
