-- The law of order by edges: the edges of a program's graph tell which of two steps is first.
--
-- vertex_of i            == the vertex of an instance: its part, with what it says
-- common_loops v w       == how many loops enclose both of two parts: how far their nests agree from the
--                           outermost on
-- IsOrderedByFlow p x i j common == a flow edge for x goes from the part of i to the part of j, and so many
--                                   loops enclose both: where i has less turns on these loops, it is before
--                                   j; where it has greater ones, it isn't; where they are the same, it is
--                                   exactly where the pair has an independent edge for x
-- IsOrdered p s n        == the law, for the run of the program p from the state s with n steps to spend:
--                           that; and of two instances whose parts have a flow edge for one variable to one
--                           use u, with the same turns on the loops that enclose both, the first is before
--                           the second exactly where an edge Order(u) goes from the one part to the other
use Rattle.std.specs.Prelude.{ℕ, zero, suc, ◌↔◌, if◌then◌else◌, List, [], ◌∷◌, Contains}
use Rattle.hpr_terms.specs.declared.tag.Tag.{Tag}
use Rattle.hpr_syntax.specs.Parts.{same_tag}
use Rattle.hpr_syntax.specs.Nests.{Standing, StandsAsIn}
use Rattle.hpr_syntax.specs.Tree.{Tree}
use Rattle.hpr_syntax.specs.Values.{Values}
use Rattle.hpr_graph.specs.declared.vertex.Vertex.{Vertex}
use Rattle.hpr_graph.specs.declared.vertex.Vertex.TheVariants.{Part}
use Rattle.hpr_graph.specs.declared.edge.Kind.TheVariants.{Independent, Order}
use Rattle.hpr_graph.specs.ProgramGraph.{HasFlow, graph_of}
use Rattle.hpr_paths.specs.Times.{IsBefore, HaveLessTurns, HaveSameTurns}
use Rattle.hpr_meaning.specs.Instances.{Instance, instances}

abbrev pub vertex_of : Instance → Vertex
vertex_of i = Part i.0.0 i.1.content

abbrev pub common_loops : List Tag → List Tag → ℕ
common_loops [] ws = zero
common_loops (v ∷ vs) [] = zero
common_loops (v ∷ vs) (w ∷ ws) = if same_tag v w then suc (common_loops vs ws) else zero

pub record IsOrderedByFlow (p : Tree) (x : List ℕ) (i j : Instance) (common : ℕ) : Type 0 where
  pub lesser : HaveLessTurns common 0 i.0.1 j.0.1 → IsBefore p.body i.0 j.0
  pub greater : HaveLessTurns common 0 j.0.1 i.0.1 → ¬ IsBefore p.body i.0 j.0
  pub equal : HaveSameTurns common 0 i.0.1 j.0.1
      → IsBefore p.body i.0 j.0 ↔ (graph_of p).edge (record { to = vertex_of j; from = vertex_of i; kind = Independent x })

pub record IsOrdered (p : Tree) (s : Values) (n : ℕ) : Type 0 where
  pub by_flow : (x : List ℕ) (i j : Instance) (d u : Standing) → Contains (instances p s n) i → Contains (instances p s n) j
      → StandsAsIn p.body i.0.0 d → StandsAsIn p.body j.0.0 u → HasFlow p x (vertex_of i) (vertex_of j)
      → IsOrderedByFlow p x i j (common_loops d.nest u.nest)
  pub by_use : (x : List ℕ) (u : Vertex) (i j : Instance) (d e : Standing) → Contains (instances p s n) i → Contains (instances p s n) j
      → StandsAsIn p.body i.0.0 d → StandsAsIn p.body j.0.0 e → HasFlow p x (vertex_of i) u → HasFlow p x (vertex_of j) u
      → HaveSameTurns (common_loops d.nest e.nest) 0 i.0.1 j.0.1
      → IsBefore p.body i.0 j.0 ↔ (graph_of p).edge (record { to = vertex_of j; from = vertex_of i; kind = Order u })
