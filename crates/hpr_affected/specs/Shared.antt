-- What of a base all of some variants share.
--
-- others_of cs              == the graphs beside which these stand
-- AreOfBase base cs         == the graph of each of these is the base
-- MarksUnshared base gs marks == there is a mark for each vertex of base: what is marked is not shared by all
--                                of the graphs, and what isn't marked is
use Rattle.std.specs.Prelude.{◌≡◌, ℕ, Bool, Some, List, map, slice_get, length}
use Rattle.std.specs.List.{AllByRecursion}
use Rattle.hpr_search.specs.Marks.{IsMarked}
use Rattle.hpr_graph.specs.declared.vertex.Vertex.{Vertex}
use Rattle.hpr_graph.specs.Numbered.{Numbered, graph_in, graphs_in}
use Rattle.hpr_graph.specs.Points.{AllShare}
use Rattle.hpr_affected.specs.Comparison.{Sides}

abbrev pub others_of : List Sides → List Numbered
others_of cs = map (λ c. c.other) cs

abbrev pub AreOfBase : Numbered → List Sides → Type 0
AreOfBase base cs = AllByRecursion (λ c. c.graph ≡ base) cs

pub record MarksUnshared (base : Numbered) (gs : List Numbered) (marks : List Bool) : Type 0 where
  pub count : length marks ≡ length base.vertices
  pub unshared : (at : ℕ) (v : Vertex) → slice_get base.vertices at ≡ Some v
      → IsMarked marks at → ¬ AllShare (graph_in base) (graphs_in gs) v
  pub shared : (at : ℕ) (v : Vertex) → slice_get base.vertices at ≡ Some v
      → ¬ IsMarked marks at → AllShare (graph_in base) (graphs_in gs) v
