-- The numbers of a clash are those of vertices.
use Rattle.std.proofs.Common.{◌≡◌, ℕ, ◌<◌, Some, List, [], ◌∷◌, map, length, slice_get, arith}
use Rattle.std.specs.Prelude.{All}
use Rattle.std.proofs.lemmas.List.Elements.{All-cons}
use Rattle.std.proofs.lemmas.Option.{slice_get_within}
use Rattle.hpr_graph.specs.declared.vertex.Vertex.{Vertex}
use Rattle.hpr_graph.specs.Numbered.{Numbered}
use Rattle.hpr_rebuild.specs.declared.clash.FirstClash.{FirstClash}
use Rattle.hpr_told.specs.Clashes.{IsWithin}

all_within : (vs : List Vertex) (ns : List ℕ) (front : List Vertex) → map (slice_get vs) ns ≡ map Some front → All (λ n. n < length vs) ns
all_within vs [] front is = λ i d below. absurd (omega (arith, below))
all_within vs (n ∷ ns) [] is = absurd cc
all_within vs (n ∷ ns) (v ∷ front) is = All-cons (λ m. m < length vs) n ns (slice_get_within vs n v cc) (all_within vs ns front cc)

-- where the vertices with its numbers are known
pub clash_within : (g : Numbered) (f : FirstClash) (front : List Vertex) (c : Vertex) → map (slice_get g.vertices) f.front.items ≡ map Some front
    → slice_get g.vertices f.part ≡ Some c → IsWithin g f
clash_within g f front c behind part = (all_within g.vertices f.front.items front behind, slice_get_within g.vertices f.part c part)
