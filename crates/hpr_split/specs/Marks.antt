-- Which parts get new tags.
--
-- IsUnmarked g keep v       == the vertex v of g isn't marked
-- is_chosen mark v          == v is a part, and has no mark
-- with_chosen mark v vs     == v behind the others, where it is chosen
-- IsChosenAt vs keep n v    == v is a part among the first n vertices, and isn't marked
use Rattle.std.specs.Prelude.{◌≡◌, ℕ, ◌<◌, Bool, false, not, if◌then◌else◌, List, [], ◌∷◌, ◌++◌, Some, slice_get}
use Rattle.hpr_search.specs.Marks.{IsMarked}
use Rattle.hpr_graph.specs.declared.vertex.Vertex.{Vertex}
use Rattle.hpr_graph.specs.declared.vertex.Vertex.TheVariants.{Entry, Init, Part, Final}
use Rattle.hpr_graph.specs.Fits.{IsPart}
use Rattle.hpr_graph.specs.Numbered.{Numbered, IsMarkedVertex}

abbrev pub IsUnmarked : Numbered → List Bool → Vertex → Type 0
IsUnmarked g keep v = ¬ IsMarkedVertex g keep v

abbrev pub is_chosen : Bool → Vertex → Bool
is_chosen mark Entry = false
is_chosen mark (Init x) = false
is_chosen mark (Part t c) = not mark
is_chosen mark (Final x) = false

abbrev pub with_chosen : Bool → Vertex → List Vertex → List Vertex
with_chosen mark v vs = if is_chosen mark v then vs ++ v ∷ [] else vs

abbrev pub IsChosenAt : List Vertex → List Bool → ℕ → Vertex → Type 0
IsChosenAt vs keep n v = (at : ℕ) × (at < n) × (slice_get vs at ≡ Some v) × IsPart v × ¬ IsMarked keep at
