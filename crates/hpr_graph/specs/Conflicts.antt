-- Conflicts: of any number of variants, and of two (Horwitz, Prins and Reps 1989, who name no edge for a
-- conflict).
--
-- number_of side            == the number of that side's variant: A is the first, 0, and B the next, 1
-- graph_at gs i             == the graph of the variant with the number i; nothing where there is none
-- graph_on side a b         == the graph of that side
-- IsAdded m g v e           == e lies in v's slice in m, not in v's slice in g, and ends in a vertex of the
--                              latter
-- IsLeast P e               == e has P, and no edge before it has
-- IsConflictAt m g base v   == v is an affected point of the variant's graph g, and its slice in m differs
--                              from that in g
-- IsConflictOf base gs i v e == the point v of the variant i is a conflict in the merged graph, and e is the
--                               least edge added there
-- HasNoConflict base gs     == nothing is one
-- ComesFirst i v j w        == a lesser variant's conflicts come first, and those of one variant by their
--                              points
-- AreConflictsBy at base gs xs == the list has exactly the conflicts, in this order, each once, where `at`
--                                 tells the variant, the point and the edge
-- told_as c                 == the number of the conflict's side, its point and its edge
-- told_many c               == the number of the conflict's variant, here from 0, its point and its edge
-- ComesBefore c d           == A's conflicts come first, and on one side the order is that of the points
-- AreConflicts base a b cs  == the list has exactly the conflicts, in this order, each once
use Rattle.std.specs.Prelude.{◌≡◌, ℕ, zero, suc, ◌-◌, ◌<◌, ◌⊎◌, ◌↔◌, List, [], ◌∷◌, Contains, slice_get, Some}
use Rattle.std.specs.declared.cmp.Ordering.TheVariants.{Less}
use Rattle.hpr_graph.specs.declared.conflict.Conflict.{Conflict}
use Rattle.hpr_graph.specs.declared.conflict.ManyConflict.{ManyConflict}
use Rattle.hpr_graph.specs.declared.conflict.Side.{Side}
use Rattle.hpr_graph.specs.declared.conflict.Side.TheVariants.{A, B}
use Rattle.hpr_graph.specs.declared.vertex.Vertex.{Vertex}
use Rattle.hpr_graph.specs.declared.edge.Edge.{Edge}
use Rattle.hpr_graph.specs.Graphs.{Graph, Same, nothing}
use Rattle.hpr_graph.specs.Slices.{slice_at}
use Rattle.hpr_graph.specs.Points.{IsAffected, merged_all}
use Rattle.hpr_graph.specs.Order.{vertex_cmp, edge_cmp}

abbrev pub number_of : Side → ℕ
number_of A = 0
number_of B = 1

abbrev pub graph_at : List Graph → ℕ → Graph
graph_at [] i = nothing
graph_at (g ∷ gs) zero = g
graph_at (g ∷ gs) (suc i) = graph_at gs i

abbrev pub graph_on : Side → Graph → Graph → Graph
graph_on side a b = graph_at (a ∷ b ∷ []) (number_of side)

abbrev pub IsAdded : Graph → Graph → Vertex → Edge → Type 0
IsAdded m g v e = (slice_at m v).edge e × (¬ (slice_at g v).edge e) × (slice_at g v).vertex e.to

abbrev pub IsLeast : (Edge → Type 0) → Edge → Type 0
IsLeast P e = P e × ((f : Edge) → P f → ¬ (edge_cmp f e ≡ Less))

abbrev pub IsConflictAt : Graph → Graph → Graph → Vertex → Type 0
IsConflictAt m g base v = IsAffected g base v × ¬ Same (slice_at m v) (slice_at g v)

abbrev pub IsConflictOf : Graph → List Graph → ℕ → Vertex → Edge → Type 0
IsConflictOf base gs i v e =
    IsConflictAt (merged_all base gs) (graph_at gs i) base v
    × IsLeast (IsAdded (merged_all base gs) (graph_at gs i) v) e

abbrev pub HasNoConflict : Graph → List Graph → Type 0
HasNoConflict base gs = (i : ℕ) (v : Vertex) (e : Edge) → ¬ IsConflictOf base gs i v e

abbrev pub ComesFirst : ℕ → Vertex → ℕ → Vertex → Type 0
ComesFirst i v j w = (i < j) ⊎ ((i ≡ j) × (vertex_cmp v w ≡ Less))

abbrev pub AreConflictsBy : {X : Type 0} → (X → ℕ × Vertex × Edge) → Graph → List Graph → List X → Type 0
AreConflictsBy {X} at base gs xs =
    ((x : X) → Contains xs x ↔ IsConflictOf base gs (at x).0 (at x).1 (at x).2)
    × ((i j : ℕ) (x y : X) → i < j → slice_get xs i ≡ Some x → slice_get xs j ≡ Some y
    → ComesFirst (at x).0 (at x).1 (at y).0 (at y).1)

abbrev pub told_as : Conflict → ℕ × Vertex × Edge
told_as c = (number_of c.side, c.point, c.edge)

abbrev pub told_many : ManyConflict → ℕ × Vertex × Edge
told_many c = (c.variant - 1, c.point, c.edge)

abbrev pub ComesBefore : Conflict → Conflict → Type 0
ComesBefore c d = ComesFirst (number_of c.side) c.point (number_of d.side) d.point

abbrev pub AreConflicts : Graph → Graph → Graph → List Conflict → Type 0
AreConflicts base a b cs = AreConflictsBy told_as base (a ∷ b ∷ []) cs
