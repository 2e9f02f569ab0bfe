-- Two graphs side by side.
--
-- Sides                       == a graph and another
-- IsComparison g h there back == where g has edges that h lacks, and where h has edges that g lacks
-- MarksAffected g h marks     == there is a mark for each vertex of g: exactly the affected points of g
--                                beside h are marked, and h shares the others
use Rattle.std.specs.Prelude.{◌≡◌, ℕ, Bool, Some, List, slice_get}
use Rattle.hpr_search.specs.Marks.{IsMarked}
use Rattle.hpr_graph.specs.declared.vertex.Vertex.{Vertex}
use Rattle.hpr_graph.specs.Numbered.{Numbered, IsNumbered, graph_in}
use Rattle.hpr_graph.specs.Points.{IsAffected, IsShared}
use Rattle.hpr_slice.specs.Vertices.{MarksExactly}
use Rattle.hpr_affected.specs.declared.differing.Differences.{Differences}
use Rattle.hpr_affected.specs.Differing.{IsDiffering}

pub record Sides : Type 0 where
  pub graph : Numbered
  pub other : Numbered

pub record IsComparison (g h : Numbered) (there back : Differences) : Type 0 where
  pub graph : IsNumbered g
  pub other : IsNumbered h
  pub differs_there : IsDiffering g h there.numbers.items there.marks.items
  pub differs_back : IsDiffering h g back.numbers.items back.marks.items

pub record MarksAffected (g h : Numbered) (marks : List Bool) : Type 0 where
  pub affected : MarksExactly g (IsAffected (graph_in g) (graph_in h)) marks
  pub shared : (at : ℕ) (v : Vertex) → slice_get g.vertices at ≡ Some v
      → ¬ IsMarked marks at → IsShared (graph_in g) (graph_in h) v
