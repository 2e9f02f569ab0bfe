-- Vertices by their numbers.
--
-- AreNumbersOf g P numbers == the numbers of exactly the vertices of g that have P, ascending
use Rattle.std.specs.Prelude.{◌≡◌, ℕ, ◌<◌, ◌↔◌, Some, List, Contains, All, slice_get, length}
use Rattle.std.specs.Ordering.{nat_cmp}
use Rattle.hpr_graph.specs.declared.vertex.Vertex.{Vertex}
use Rattle.hpr_graph.specs.Numbered.{Numbered}
use Rattle.hpr_graph.specs.InOrder.{Ascends}

pub record AreNumbersOf (g : Numbered) (P : Vertex → Type 0) (numbers : List ℕ) : Type 0 where
  pub ascend : Ascends nat_cmp numbers
  pub within : All (λ n. n < length g.vertices) numbers
  pub exact : (at : ℕ) (v : Vertex) → slice_get g.vertices at ≡ Some v → Contains numbers at ↔ P v
