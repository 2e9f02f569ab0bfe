-- The conflicts of one variant.
--
-- IsPointConflict m g P p    == the pair's point has P, and its edge is the least one that m adds there to
--                               g's slice
-- ArePointConflicts m g P ps == the list has exactly these, in the order of their points
-- IsEdgeOfPoint m g P v o    == o is the least edge added at v, if v has P; none where v hasn't P, or none is
--                               added
-- with_edge v o ps           == the list with the point v and its edge behind the others, if there is an edge
-- conflict_on side p         == the conflict of this side at the pair's point, with its edge
use Rattle.std.specs.Prelude.{◌≡◌, ℕ, ◌<◌, ◌↔◌, Option, Some, None, List, [], ◌∷◌, ◌++◌, Contains, slice_get}
use Rattle.std.specs.declared.cmp.Ordering.TheVariants.{Less}
use Rattle.hpr_graph.specs.declared.conflict.Conflict.{Conflict}
use Rattle.hpr_graph.specs.declared.conflict.Side.{Side}
use Rattle.hpr_graph.specs.declared.vertex.Vertex.{Vertex}
use Rattle.hpr_graph.specs.declared.edge.Edge.{Edge}
use Rattle.hpr_graph.specs.Graphs.{Graph}
use Rattle.hpr_graph.specs.Order.{vertex_cmp}
use Rattle.hpr_graph.specs.Conflicts.{IsAdded, IsLeast}

abbrev pub IsPointConflict : Graph → Graph → (Vertex → Type 0) → Vertex × Edge → Type 0
IsPointConflict m g P p = P p.0 × IsLeast (IsAdded m g p.0) p.1

pub record ArePointConflicts (m g : Graph) (P : Vertex → Type 0) (ps : List (Vertex × Edge)) : Type 0 where
  pub exact : (p : Vertex × Edge) → Contains ps p ↔ IsPointConflict m g P p
  pub ascend : (i j : ℕ) (p q : Vertex × Edge) → i < j → slice_get ps i ≡ Some p → slice_get ps j ≡ Some q → vertex_cmp p.0 q.0 ≡ Less

abbrev pub IsEdgeOfPoint : Graph → Graph → (Vertex → Type 0) → Vertex → Option Edge → Type 0
IsEdgeOfPoint m g P v None = P v → (e : Edge) → ¬ IsAdded m g v e
IsEdgeOfPoint m g P v (Some e) = P v × IsLeast (IsAdded m g v) e

abbrev pub with_edge : Vertex → Option Edge → List (Vertex × Edge) → List (Vertex × Edge)
with_edge v None ps = ps
with_edge v (Some e) ps = ps ++ (v, e) ∷ []

abbrev pub conflict_on : Side → Vertex × Edge → Conflict
conflict_on side p = record { side = side; point = p.0; edge = p.1 }
