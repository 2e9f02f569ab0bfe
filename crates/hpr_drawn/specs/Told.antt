-- The graph of a program as JSON, with where its vertices stand and which names they define and use.
--
-- UsesName v x        == the vertex v uses x: a part by what it says, a final value by its name
-- AreUses v xs        == these are the names that v uses, in the order of their bytes, each once
-- names_data xs       == these names
-- told_data ss v xs   == the vertex v: where it stands, the name that it defines, if it defines one, and the
--                        names xs, which it uses
-- IsTold ss v d       == the object tells the vertex v
-- AreTold ss vs ds    == the objects tell these vertices, in order
-- AreListed ss g es ds == es tell the edges of the graph, whose vertices are named by their places in the
--                        list of the vertices, and ds tell these; both in their order
-- graph_object es ds  == an object with these edges and these vertices
-- told_graph es ds    == the same with the status of an answer
-- IsGraphObject ss g d == d tells the vertices and the edges of the graph
-- IsToldGraph ss g d  == so does d, with the status of an answer
use Rattle.std.specs.Prelude.{◌≡◌, ℕ, List, [], ◌∷◌, map, codes, Contains, ◌↔◌, option_to_list}
use Rattle.std.specs.List.Sorted.{IsStrictlySortedBy}
use Rattle.serde_json.specs.Data.{Data, string, array, object, member, no_members}
use Rattle.serde_json.specs.View.{items_of}
use Rattle.hpr_syntax.specs.Contents.{UsesIn}
use Rattle.hpr_graph.specs.declared.vertex.Vertex.{Vertex}
use Rattle.hpr_graph.specs.declared.vertex.Vertex.TheVariants.{Entry, Init, Part, Final}
use Rattle.hpr_graph.specs.declared.edge.Edge.{Edge}
use Rattle.hpr_graph.specs.Graphs.{Graph, name_of}
use Rattle.hpr_graph.specs.Order.{name_cmp}
use Rattle.hpr_graph.specs.InOrder.{AreEdgesOf, AreVerticesOf}
use Rattle.hpr_report.specs.GraphJson.{edge_data}
use Rattle.hpr_located.specs.Sources.{Standing}
use Rattle.hpr_located.specs.Shown.{located_data, with_member}

abbrev pub UsesName : Vertex → List ℕ → Type 0
UsesName Entry x = ⊥
UsesName (Init y) x = ⊥
UsesName (Part t c) x = UsesIn c x
UsesName (Final y) x = x ≡ y

pub record AreUses (v : Vertex) (xs : List (List ℕ)) : Type 0 where
  pub ascend : IsStrictlySortedBy name_cmp xs
  pub all : (x : List ℕ) → Contains xs x ↔ UsesName v x

abbrev pub names_data : List (List ℕ) → Data
names_data xs = array (items_of (map string xs))

abbrev pub told_data : List Standing → Vertex → List (List ℕ) → Data
told_data ss v xs =
    with_member (codes "uses") (names_data xs)
    (with_member (codes "defines") (names_data (option_to_list (name_of v))) (located_data ss v))

abbrev pub IsTold : List Standing → Vertex → Data → Type 0
IsTold ss v d = (xs : List (List ℕ)) × AreUses v xs × (d ≡ told_data ss v xs)

abbrev pub AreTold : List Standing → List Vertex → List Data → Type 0
AreTold ss [] [] = Unit {0}
AreTold ss [] (d ∷ ds) = ⊥
AreTold ss (v ∷ vs) [] = ⊥
AreTold ss (v ∷ vs) (d ∷ ds) = IsTold ss v d × AreTold ss vs ds

pub record AreListed (ss : List Standing) (g : Graph) (es ds : List Data) : Type 0 where
  pub vertices : List Vertex
  pub edges : List Edge
  pub vertices_are : AreVerticesOf g vertices
  pub edges_are : AreEdgesOf g edges
  pub told : AreTold ss vertices ds
  pub edges_told : es ≡ map (edge_data vertices) edges

abbrev pub graph_object : List Data → List Data → Data
graph_object es ds =
    object
    (member (codes "edges") (array (items_of es))
    (member (codes "vertices") (array (items_of ds)) no_members))

abbrev pub told_graph : List Data → List Data → Data
told_graph es ds =
    object
    (member (codes "edges") (array (items_of es))
    (member (codes "status") (string (codes "done"))
    (member (codes "vertices") (array (items_of ds)) no_members)))

abbrev pub IsGraphObject : List Standing → Graph → Data → Type 0
IsGraphObject ss g d = (es ds : List Data) × AreListed ss g es ds × (d ≡ graph_object es ds)

abbrev pub IsToldGraph : List Standing → Graph → Data → Type 0
IsToldGraph ss g d = (es ds : List Data) × AreListed ss g es ds × (d ≡ told_graph es ds)
