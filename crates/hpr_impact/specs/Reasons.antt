-- Why the points of a variant are affected. The 1989 paper says which are, and gives no reasons.
--
-- points_of rs         == the points of these reasons
-- LeadsBack rs n i k   == n edges lead back from the i-th of the points to the k-th: each is the one by which
--                         its point is reached, the next is that of the point where it begins, and the k-th
--                         has none
-- AreReasons g base rs == the affected points of the variant's graph g in their order, each with its reason:
--                         none but a directly affected point has no edge, each edge is a control or flow edge
--                         of g into its point, and the edges lead back to the root
use Rattle.std.specs.Prelude.{◌≡◌, ℕ, suc, ◌↔◌, Some, None, List, Contains, map, slice_get}
use Rattle.hpr_graph.specs.declared.vertex.Vertex.{Vertex}
use Rattle.hpr_graph.specs.declared.edge.Edge.{Edge}
use Rattle.hpr_graph.specs.Direct.{IsDirectlyAffected}
use Rattle.hpr_graph.specs.Graphs.{Graph}
use Rattle.hpr_graph.specs.Points.{IsAffected}
use Rattle.hpr_graph.specs.Slices.{Leads}
use Rattle.hpr_report.specs.AffectedText.{ArePoints}
use Rattle.hpr_impact.specs.declared.why.Reason.{Reason}

abbrev pub points_of : List Reason → List Vertex
points_of rs = map (λ r. r.point) rs

pub data LeadsBack (rs : List Reason) : ℕ → ℕ → ℕ → Type 0 where
  ends : {k : ℕ} {r : Reason} → slice_get rs k ≡ Some r → r.by ≡ None → LeadsBack rs 0 k k
  goes : {n i j k : ℕ} {r q : Reason} {e : Edge} → slice_get rs i ≡ Some r → r.by ≡ Some e → slice_get rs j ≡ Some q → q.point ≡ e.from
      → LeadsBack rs n j k → LeadsBack rs (suc n) i k

pub record AreReasons (g base : Graph) (rs : List Reason) : Type 0 where
  pub points : ArePoints (IsAffected g base) (points_of rs)
  pub direct : (r : Reason) → Contains rs r → r.by ≡ None ↔ IsDirectlyAffected g base r.point
  pub edges : (r : Reason) (e : Edge) → Contains rs r → r.by ≡ Some e → g.edge e × Leads e.kind × (e.to ≡ r.point)
  pub roots : (i : ℕ) (r : Reason) → slice_get rs i ≡ Some r → (n : ℕ) × LeadsBack rs n i r.root
