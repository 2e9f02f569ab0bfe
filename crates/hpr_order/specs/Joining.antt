-- Vertices put into a list in runs.
--
-- runs_of rows        == the runs in the rows, each of which is kept from its end on
-- run_at runs at      == the run for this place; none where there is no such place
-- with_first runs at v == the runs, where v stands first in the run for this place
-- IsTaken xs v at runs next new == where v is listed, next is its place and the runs stay; else v stands
--                                  first in the run for the same place
-- woven runs xs       == each run of the list right before the vertex at its place, and the last run at the
--                        end
use Rattle.std.specs.Prelude.{◌≡◌, ℕ, ◌⊎◌, List, [], ◌∷◌, ◌++◌, Some, Vec, Contains, map, reverse, set, slice_get, slice_index_or}
use Rattle.std.specs.Global.{Global}
use Rattle.hpr_graph.specs.declared.vertex.Vertex.{Vertex}

abbrev pub runs_of : List (Vec Vertex Global) → List (List Vertex)
runs_of rows = map (λ row. reverse row.items) rows

abbrev pub run_at : List (List Vertex) → ℕ → List Vertex
run_at runs at = slice_index_or runs at []

abbrev pub with_first : List (List Vertex) → ℕ → Vertex → List (List Vertex)
with_first runs at v = set runs at (v ∷ run_at runs at)

abbrev pub IsTaken : List Vertex → Vertex → ℕ → List (List Vertex) → ℕ → List (List Vertex) → Type 0
IsTaken xs v at runs next new =
    ((slice_get xs next ≡ Some v) × (new ≡ runs))
    ⊎ ((¬ Contains xs v) × (next ≡ at) × (new ≡ with_first runs at v))

abbrev pub woven : List (List Vertex) → List Vertex → List Vertex
woven [] xs = xs
woven (run ∷ runs) [] = run ++ woven runs []
woven (run ∷ runs) (x ∷ xs) = run ++ x ∷ woven runs xs
