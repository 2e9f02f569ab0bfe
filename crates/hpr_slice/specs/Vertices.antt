-- Vertices by their numbers.
--
-- MarksExactly g P marks == there is a mark for each vertex of g, and exactly those that have P are marked
use Rattle.std.specs.Prelude.{◌≡◌, ℕ, Bool, ◌↔◌, Some, List, slice_get, length}
use Rattle.hpr_search.specs.Marks.{IsMarked}
use Rattle.hpr_graph.specs.declared.vertex.Vertex.{Vertex}
use Rattle.hpr_graph.specs.Numbered.{Numbered}
pub use Rattle.hpr_graph.specs.Numbered.{IsOneOf}

pub record MarksExactly (g : Numbered) (P : Vertex → Type 0) (marks : List Bool) : Type 0 where
  pub count : length marks ≡ length g.vertices
  pub exact : (at : ℕ) (v : Vertex) → slice_get g.vertices at ≡ Some v → IsMarked marks at ↔ P v
