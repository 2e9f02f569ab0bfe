-- What rules a part out as the next one of an arrangement, by the parts that are placed before it. The 1989
-- paper has no such search.
--
-- StandInOneBlock g v w == the control edges into both come from one source and have one label
-- UsesName v x          == the part v uses the name x
-- IsWrongReach g placed c == a name that c uses is defined in its block last, among all that is placed, by a
--                            part without such an edge to c
-- IsKill g placed c     == c defines a name that another part of its block, not yet placed, still needs of a
--                          placed part of that block
-- Clashes g placed c    == c is reached wrongly, or kills
use Rattle.std.specs.Prelude.{◌≡◌, ℕ, Bool, ◌⊎◌, Some, List, ◌∷◌, ◌++◌, Contains}
use Rattle.hpr_syntax.specs.Contents.{UsesIn}
use Rattle.hpr_graph.specs.declared.vertex.Vertex.{Vertex}
use Rattle.hpr_graph.specs.declared.vertex.Vertex.TheVariants.{Entry, Init, Part, Final}
use Rattle.hpr_graph.specs.declared.edge.Kind.TheVariants.{Control, Independent}
use Rattle.hpr_graph.specs.Graphs.{Graph, name_of}
use Rattle.hpr_graph.specs.Arrangements.{edge_into}
use Rattle.hpr_graph.specs.Fits.{IsPart}

abbrev pub StandInOneBlock : Graph → Vertex → Vertex → Type 0
StandInOneBlock g v w =
    (from : Vertex) × (label : Bool) × g.edge (edge_into from v (Control label)) × g.edge (edge_into from w (Control label))

abbrev pub UsesName : Vertex → List ℕ → Type 0
UsesName Entry x = ⊥
UsesName (Init y) x = ⊥
UsesName (Part t c) x = UsesIn c x
UsesName (Final y) x = ⊥

abbrev pub IsWrongReach : Graph → List Vertex → Vertex → Type 0
IsWrongReach g placed c =
    (x : List ℕ) × (d : Vertex) × (front back : List Vertex) × (placed ≡ front ++ d ∷ back) × StandInOneBlock g d c
    × (name_of d ≡ Some x) × ((v : Vertex) → Contains back v → ¬ (name_of v ≡ Some x)) × UsesName c x
    × ¬ g.edge (edge_into d c (Independent x))

abbrev pub IsKill : Graph → List Vertex → Vertex → Type 0
IsKill g placed c =
    (x : List ℕ) × (d u : Vertex) × Contains placed d × IsPart u × (¬ (u ≡ c)) × (¬ Contains placed u) × StandInOneBlock g d c
    × StandInOneBlock g c u × (name_of d ≡ Some x) × (name_of c ≡ Some x) × g.edge (edge_into d u (Independent x))

abbrev pub Clashes : Graph → List Vertex → Vertex → Type 0
Clashes g placed c = IsWrongReach g placed c ⊎ IsKill g placed c
