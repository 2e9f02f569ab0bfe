-- The first leaf of a graph's arrangements, and whether its last part clashes with those before it.
--
-- IsFirstClash g rank issued front c == the first leaf is the front and then c, which clashes with it
-- IsClear g xs == there is no leaf, or the last part of the first leaf doesn't clash with those before it
-- HasNoFirstClash g rank issued == so it is of the leaves of the arrangements
-- IsClashOf g rank issued f == the vertices with the numbers of f are the first leaf and its clash
use Rattle.std.specs.Prelude.{◌≡◌, ◌⊎◌, Some, List, [], ◌∷◌, ◌++◌, map, slice_get}
use Rattle.hpr_syntax.specs.Issued.{Issued}
use Rattle.hpr_syntax.specs.Tree.{Tree}
use Rattle.hpr_graph.specs.declared.vertex.Vertex.{Vertex}
use Rattle.hpr_graph.specs.Arrangements.{AreArrangements}
use Rattle.hpr_graph.specs.Clashes.{Clashes}
use Rattle.hpr_graph.specs.Graphs.{Graph}
use Rattle.hpr_graph.specs.Leaves.{AreLeaves}
use Rattle.hpr_graph.specs.Numbered.{Numbered, graph_in}
use Rattle.hpr_rebuild.specs.declared.clash.FirstClash.{FirstClash}

abbrev pub IsFirstClash : Graph → List Vertex → Issued → List Vertex → Vertex → Type 0
IsFirstClash g rank issued front c =
    (ps : List Tree) × (xs back : List (List Vertex)) × AreArrangements g rank issued ps × AreLeaves g ps xs
    × (xs ≡ (front ++ c ∷ []) ∷ back) × Clashes g front c

abbrev pub IsClear : Graph → List (List Vertex) → Type 0
IsClear g xs =
    (xs ≡ [])
    ⊎ (((back : List (List Vertex)) × (xs ≡ [] ∷ back))
    ⊎ ((front : List Vertex) × (c : Vertex) × (back : List (List Vertex)) × (xs ≡ (front ++ c ∷ []) ∷ back)
    × ¬ Clashes g front c))

abbrev pub HasNoFirstClash : Graph → List Vertex → Issued → Type 0
HasNoFirstClash g rank issued =
    (ps : List Tree) × (xs : List (List Vertex)) × AreArrangements g rank issued ps × AreLeaves g ps xs × IsClear g xs

abbrev pub IsClashOf : Numbered → List Vertex → Issued → FirstClash → Type 0
IsClashOf g rank issued f =
    (front : List Vertex) × (c : Vertex) × (map (slice_get g.vertices) f.front.items ≡ map Some front)
    × (slice_get g.vertices f.part ≡ Some c) × IsFirstClash (graph_in g) rank issued front c
