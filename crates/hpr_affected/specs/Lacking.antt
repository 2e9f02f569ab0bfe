-- What of a graph another lacks.
--
-- AreNumbersIn g h ns             == for each vertex of g its number in h, none exactly where h lacks it
-- IsThere h ns at l               == h has the link l into the vertex `at` by the numbers there
-- IsKnown ns known l              == the link l by the numbers there is one of the known
use Rattle.std.specs.Prelude.{◌≡◌, ℕ, Option, Some, None, List, Contains, slice_get, length}
use Rattle.hpr_graph.specs.declared.vertex.Vertex.{Vertex}
use Rattle.hpr_graph.specs.declared.link.Link.{Link}
use Rattle.hpr_graph.specs.Numbered.{Numbered, HasVertex, HasLink}
use Rattle.hpr_graph.specs.Moves.{number_at, moved, ArePlaced}

pub record AreNumbersIn (g h : Numbered) (ns : List (Option ℕ)) : Type 0 where
  pub count : length ns ≡ length g.vertices
  pub placed : ArePlaced g.vertices ns h.vertices
  pub strangers : (i : ℕ) (v : Vertex) → slice_get g.vertices i ≡ Some v → number_at ns i ≡ None → ¬ HasVertex h v

abbrev pub IsThere : Numbered → List (Option ℕ) → ℕ → Link → Type 0
IsThere h ns at l = (to : ℕ) × (m : Link) × (number_at ns at ≡ Some to) × (moved ns l ≡ Some m) × HasLink h to m

abbrev pub IsKnown : List (Option ℕ) → List Link → Link → Type 0
IsKnown ns known l = (m : Link) × (moved ns l ≡ Some m) × Contains known m
