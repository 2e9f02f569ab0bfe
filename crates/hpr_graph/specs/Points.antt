-- What variants changed, what base and all of them share, and the merged graph: of any number of variants,
-- and of two (Horwitz, Prins and Reps 1989, of two).
--
-- IsShared g h v          == h has the vertex v too, with the same slice
-- IsAffected g base v     == v is a vertex of the variant's graph g that base's graph lacks or has with
--                            another slice
-- IsInit v                == v is an Init vertex
-- AllShare base gs v      == each of the variants' graphs has the vertex v of base too, with the same slice
-- IsPreservedBy base gs v == v is a vertex of base's graph and of all variants', with equal slices; an Init
--                            vertex is none here
-- changed base gs         == what the variants changed: the union of the slices of their affected points
-- merged_all base gs      == what the variants changed and what all share: the union of these slices
-- IsPreserved base a b v  == v is a vertex of all three graphs, with three equal slices; an Init vertex is
--                            none here
-- merged base a b         == what the two variants changed and what all three share: the union of the three
--                            slices
use Rattle.std.specs.Prelude.{◌≡◌, ℕ, List, [], ◌∷◌}
use Rattle.hpr_graph.specs.declared.vertex.Vertex.{Vertex}
use Rattle.hpr_graph.specs.declared.vertex.Vertex.TheVariants.{Init}
use Rattle.hpr_graph.specs.Graphs.{Graph, Same, union_of, nothing}
use Rattle.hpr_graph.specs.Slices.{slice_of, slice_at}

abbrev pub IsShared : Graph → Graph → Vertex → Type 0
IsShared g h v = h.vertex v × Same (slice_at g v) (slice_at h v)

abbrev pub IsAffected : Graph → Graph → Vertex → Type 0
IsAffected g base v = g.vertex v × ¬ IsShared g base v

abbrev pub IsInit : Vertex → Type 0
IsInit v = (x : List ℕ) × (v ≡ Init x)

abbrev pub AllShare : Graph → List Graph → Vertex → Type 0
AllShare base [] v = Unit {0}
AllShare base (g ∷ []) v = IsShared base g v
AllShare base (g ∷ h ∷ gs) v = IsShared base g v × AllShare base (h ∷ gs) v

abbrev pub IsPreservedBy : Graph → List Graph → Vertex → Type 0
IsPreservedBy base gs v = (¬ IsInit v) × base.vertex v × AllShare base gs v

abbrev pub changed : Graph → List Graph → Graph
changed base [] = nothing
changed base (g ∷ []) = slice_of g (IsAffected g base)
changed base (g ∷ h ∷ gs) = union_of (slice_of g (IsAffected g base)) (changed base (h ∷ gs))

abbrev pub merged_all : Graph → List Graph → Graph
merged_all base gs = union_of (changed base gs) (slice_of base (IsPreservedBy base gs))

abbrev pub IsPreserved : Graph → Graph → Graph → Vertex → Type 0
IsPreserved base a b = IsPreservedBy base (a ∷ b ∷ [])

abbrev pub merged : Graph → Graph → Graph → Graph
merged base a b = merged_all base (a ∷ b ∷ [])
