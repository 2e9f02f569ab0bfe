-- Two graphs with the same vertices by the same numbers.
--
-- Pair                  == a graph, and one whose slices are looked at beside its slices
-- AreBeside cmp m k     == both have the same vertices in their order, their links ascend, and loops lead to
--                          the targets of carried edges
-- IsBeside cmp m k w n  == the same, where w and n are the steps of the two graphs
-- IsLeastAdded m k v o  == o is the least edge added at v to k's slice, none where none is added
-- IsLeastLink m k v o   == o is the link of that edge with its target's number, none where no edge is added
-- AreLeastLinks p ns os == at each place the link is that of the least edge added at the vertex with the
--                          number there
use Rattle.std.specs.Prelude.{◌≡◌, ℕ, Option, Some, None, List, length, slice_get}
use Rattle.std.specs.declared.cmp.Ordering.{Ordering}
use Rattle.hpr_graph.specs.declared.vertex.Vertex.{Vertex}
use Rattle.hpr_graph.specs.declared.edge.Edge.{Edge}
use Rattle.hpr_graph.specs.declared.link.Link.{Link}
use Rattle.hpr_graph.specs.Graphs.{Graph}
use Rattle.hpr_graph.specs.Numbered.{Numbered, IsEdgeAt, IsLink, IsNumbered, graph_in}
use Rattle.hpr_graph.specs.Order.{vertex_cmp}
use Rattle.hpr_graph.specs.InOrder.{Ascends, RowsAscend}
use Rattle.hpr_graph.specs.Conflicts.{IsAdded, IsLeast}
use Rattle.hpr_graph.specs.Whole.{HasLoops}
use Rattle.hpr_slice.specs.Steps.{AreSteps, AreStepsWithin}

pub record Pair : Type 0 where
  pub merged : Numbered
  pub own : Numbered

pub record AreBeside (cmp : Link → Link → Ordering) (m k : Numbered) : Type 0 where
  pub order : Ascends vertex_cmp m.vertices
  pub vertices : k.vertices ≡ m.vertices
  pub rows : RowsAscend cmp m
  pub own_rows : RowsAscend cmp k
  pub loops : HasLoops (graph_in m)
  pub own_loops : HasLoops (graph_in k)

pub record IsBeside (cmp : Link → Link → Ordering) (m k : Numbered) (wide narrow : List (ℕ × ℕ)) : Type 0 where
  pub merged : IsNumbered m
  pub own : IsNumbered k
  pub beside : AreBeside cmp m k
  pub wide_are : AreSteps m wide
  pub wide_within : AreStepsWithin (length m.vertices) wide
  pub narrow_are : AreSteps k narrow
  pub narrow_within : AreStepsWithin (length k.vertices) narrow

abbrev pub IsLeastAdded : Graph → Graph → Vertex → Option Edge → Type 0
IsLeastAdded m k v None = (e : Edge) → ¬ IsAdded m k v e
IsLeastAdded m k v (Some e) = IsLeast (IsAdded m k v) e

abbrev pub IsLeastLink : Numbered → Numbered → Vertex → Option (ℕ × Link) → Type 0
IsLeastLink m k v None = IsLeastAdded (graph_in m) (graph_in k) v None
IsLeastLink m k v (Some (to, l)) =
    IsLink m to l × ((e : Edge) → IsEdgeAt m.vertices to l e → IsLeastAdded (graph_in m) (graph_in k) v (Some e))

pub record AreLeastLinks (p : Pair) (ns : List ℕ) (os : List (Option (ℕ × Link))) : Type 0 where
  pub count : length os ≡ length ns
  pub each : (i n : ℕ) (o : Option (ℕ × Link)) (v : Vertex) → slice_get ns i ≡ Some n → slice_get os i ≡ Some o
      → slice_get p.merged.vertices n ≡ Some v → IsLeastLink p.merged p.own v o
