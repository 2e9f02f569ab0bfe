-- At which vertices a graph has edges that another lacks. An order edge counts at its shared use, each other
-- edge at its target (`counts_at` and `Counts` of hpr_closure).
--
-- CountsWithout K links to n     == one of these links into the vertex `to` that hasn't K counts at n
-- CountsLacking g h ns n         == a link of g counts at n that h, by these numbers there, lacks
-- AreDiffering g h ns marks      == there is a mark for each vertex of g, and exactly those are marked at
--                                   which such a link counts
-- HasOwn g h v                   == some edge of g that h lacks counts at v
-- IsDiffering g h ns marks       == the numbers in h of the vertices of g; exactly those of these are marked
--                                   at which an edge counts that h lacks
-- IsDirectBy ns differ others at == the vertex has no number there, or it is marked, or its number there is
use Rattle.std.specs.Prelude.{◌≡◌, ℕ, ◌<◌, ◌⊎◌, ◌↔◌, Bool, Option, Some, None, List, Contains, length}
use Rattle.hpr_search.specs.Marks.{IsMarked}
use Rattle.hpr_graph.specs.declared.vertex.Vertex.{Vertex}
use Rattle.hpr_graph.specs.declared.edge.Edge.{Edge}
use Rattle.hpr_graph.specs.declared.link.Link.{Link}
use Rattle.hpr_graph.specs.Graphs.{Graph}
use Rattle.hpr_graph.specs.Numbered.{Numbered, graph_in, row_of}
use Rattle.hpr_graph.specs.Moves.{number_at}
use Rattle.hpr_closure.specs.Counts.{counts_at, Counts}
use Rattle.hpr_slice.specs.Vertices.{MarksExactly}
use Rattle.hpr_affected.specs.Lacking.{AreNumbersIn, IsThere}

abbrev pub CountsWithout : (Link → Type 0) → List Link → ℕ → ℕ → Type 0
CountsWithout K links to n = (l : Link) × Contains links l × (¬ K l) × (counts_at l.kind to ≡ n)

abbrev pub CountsLacking : Numbered → Numbered → List (Option ℕ) → ℕ → Type 0
CountsLacking g h ns n = (to : ℕ) × CountsWithout (IsThere h ns to) (row_of g to) to n

pub record AreDiffering (g h : Numbered) (ns : List (Option ℕ)) (marks : List Bool) : Type 0 where
  pub count : length marks ≡ length g.vertices
  pub exact : (n : ℕ) → n < length g.vertices → IsMarked marks n ↔ CountsLacking g h ns n

abbrev pub HasOwn : Graph → Graph → Vertex → Type 0
HasOwn g h v = (e : Edge) × g.edge e × (¬ h.edge e) × Counts e.kind e.to v

pub record IsDiffering (g h : Numbered) (ns : List (Option ℕ)) (marks : List Bool) : Type 0 where
  pub numbers : AreNumbersIn g h ns
  pub own : MarksExactly g (HasOwn (graph_in g) (graph_in h)) marks

abbrev pub IsDirectBy : List (Option ℕ) → List Bool → List Bool → ℕ → Type 0
IsDirectBy ns differ others at =
    (number_at ns at ≡ None) ⊎ (IsMarked differ at ⊎ ((to : ℕ) × (number_at ns at ≡ Some to) × IsMarked others to))
