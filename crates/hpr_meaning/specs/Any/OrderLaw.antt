-- The law of order by edges, whatever the contents mean: the edges of a program's graph tell which of two
-- steps is first.
--
-- vertex_of i            == the vertex of an instance: its part, with what it says
-- IsOrderedByFlow p x i j common == a flow edge for x goes from the part of i to the part of j, and so many
--                                   loops enclose both: where i has less turns on these loops, it is before
--                                   j; where it has greater ones, it isn't; where they are the same, it is
--                                   exactly where the pair has an independent edge for x
-- IsOrdered p s n        == the law, for the run of the program p from the state s with n steps to spend:
--                           that; and of two instances whose parts have a flow edge for one variable to one
--                           use u, with the same turns on the loops that enclose both, the first is before
--                           the second exactly where an edge Order(u) goes from the one part to the other
use Rattle.hpr_meaning.specs.Any.Meaning.{Meaning}
use Rattle.std.specs.Prelude.{ℕ, ◌↔◌, List, Contains}
use Rattle.hpr_syntax.specs.Nests.{Standing, StandsAsIn}
use Rattle.hpr_syntax.specs.Tree.{Tree}
use Rattle.hpr_graph.specs.declared.vertex.Vertex.{Vertex}
use Rattle.hpr_graph.specs.declared.vertex.Vertex.TheVariants.{Part}
use Rattle.hpr_graph.specs.declared.edge.Kind.TheVariants.{Independent, Order}
use Rattle.hpr_graph.specs.ProgramGraph.{HasFlow, graph_of}
use Rattle.hpr_paths.specs.Times.{IsBefore, HaveLessTurns, HaveSameTurns}
use Rattle.hpr_meaning.specs.Any.Instances.{Instance, instances}
use Rattle.hpr_meaning.specs.OrderLaw.{common_loops}

module _ (M : Meaning) where
  abbrev pub vertex_of : Instance M → Vertex
  vertex_of i = Part i.0.0 i.1.content

pub record IsOrderedByFlow (M : Meaning) (p : Tree) (x : List ℕ) (i j : Instance M) (common : ℕ) : Type 0 where
  pub lesser : HaveLessTurns common 0 i.0.1 j.0.1 → IsBefore p.body i.0 j.0
  pub greater : HaveLessTurns common 0 j.0.1 i.0.1 → ¬ IsBefore p.body i.0 j.0
  pub equal : HaveSameTurns common 0 i.0.1 j.0.1
      → IsBefore p.body i.0 j.0 ↔ (graph_of p).edge (record { to = vertex_of M j; from = vertex_of M i; kind = Independent x })

pub record IsOrdered (M : Meaning) (p : Tree) (s : M.State) (n : ℕ) : Type 0 where
  pub by_flow : (x : List ℕ) (i j : Instance M) (d u : Standing) → Contains (instances M p s n) i → Contains (instances M p s n) j
      → StandsAsIn p.body i.0.0 d → StandsAsIn p.body j.0.0 u → HasFlow p x (vertex_of M i) (vertex_of M j)
      → IsOrderedByFlow M p x i j (common_loops d.nest u.nest)
  pub by_use : (x : List ℕ) (u : Vertex) (i j : Instance M) (d e : Standing) → Contains (instances M p s n) i → Contains (instances M p s n) j
      → StandsAsIn p.body i.0.0 d → StandsAsIn p.body j.0.0 e → HasFlow p x (vertex_of M i) u → HasFlow p x (vertex_of M j) u
      → HaveSameTurns (common_loops d.nest e.nest) 0 i.0.1 j.0.1
      → IsBefore p.body i.0 j.0 ↔ (graph_of p).edge (record { to = vertex_of M j; from = vertex_of M i; kind = Order u })
