-- Listed points by their numbers are those points, for the crates above.
use Rattle.std.proofs.Common.{ℕ, ◌↔◌, List}
use Rattle.hpr_graph.specs.declared.vertex.Vertex.{Vertex}
use Rattle.hpr_graph.specs.Numbered.{Numbered, HasVertex}
use Rattle.hpr_slice.specs.Vertices.{IsOneOf}
use Rattle.hpr_graph.proofs.Lists.{place_of}
use Rattle.hpr_affected.specs.Numbers.{AreNumbersOf}

pub one_of_points : (g : Numbered) (P : Vertex → Type 0) (numbers : List ℕ) → AreNumbersOf g P numbers → (v : Vertex) → HasVertex g v → IsOneOf g numbers v ↔ P v
one_of_points g P numbers are v there = (
  λ (at, has, at_v). (are.exact at v at_v).0 has,
  λ p. (let (at, at_v) = place_of g.vertices v there in (at, (are.exact at v at_v).1 p, at_v)),
)
