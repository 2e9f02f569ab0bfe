-- From where a search came to the vertices of a graph, and the reasons that are made of it.
--
-- AreBeside g base starts points == of two graphs that are whole the directly affected and the affected points
--                            of g beside base, by their numbers
-- AreWays g starts visits == the visits of a search of the control and flow edges of g from these vertices
-- IsTableOf visits table  == for each visited point one of its visits
-- visit_at table n        == the visit of the point n, if there is one
-- IsStep g to from        == a control or flow edge leads from this vertex, if there is one, into the vertex
--                            `to`
-- IsKnown g points n v    == v is a visit of the point n: it is a vertex, the root is one of the points, and an
--                            edge leads from where it was come to
-- AreKnown g points table == each of the points has such a visit
-- IsEdgeFrom g to from e  == a control or flow edge from this vertex into the vertex `to`
-- IsMadeBy g to from by   == such an edge, and none where there is no such vertex
-- IsMade g points v r     == r is the reason of the visited point: the root is told by its place among the
--                            points
-- AreMade g points table rs == each of the points has the reason that is made of its visit
use Rattle.std.specs.Prelude.{◌≡◌, ℕ, ◌<◌, Option, Some, None, List, Contains, slice_get, slice_index_or, length}
use Rattle.hpr_search.specs.Rows.{numbers_at}
use Rattle.hpr_search.specs.Walks.{IsReached}
use Rattle.hpr_graph.specs.declared.edge.Edge.{Edge}
use Rattle.hpr_graph.specs.Direct.{IsDirectlyAffected}
use Rattle.hpr_graph.specs.Graphs.{IsOnce}
use Rattle.hpr_graph.specs.Numbered.{Numbered, HasEdge, IsNumbered, graph_in, row_of}
use Rattle.hpr_graph.specs.Points.{IsAffected}
use Rattle.hpr_graph.specs.Slices.{Leads}
use Rattle.hpr_graph.specs.Whole.{IsWhole}
use Rattle.hpr_affected.specs.Numbers.{AreNumbersOf}
use Rattle.hpr_slice.specs.Neighbours.{AreTargets, HasSource}
use Rattle.hpr_impact.specs.declared.why.Reason.{Reason}
use Rattle.hpr_impact.specs.declared.search.Visit.{Visit}
use Rattle.hpr_impact.specs.Private.Search.{IsTrail, points_of}

pub record AreBeside (g base : Numbered) (starts points : List ℕ) : Type 0 where
  pub graph : IsNumbered g
  pub other : IsNumbered base
  pub whole : IsWhole (graph_in g)
  pub whole_other : IsWhole (graph_in base)
  pub direct : AreNumbersOf g (IsDirectlyAffected (graph_in g) (graph_in base)) starts
  pub affected : AreNumbersOf g (IsAffected (graph_in g) (graph_in base)) points

pub record AreWays (g : Numbered) (starts : List ℕ) (visits : List Visit) : Type 0 where
  pub rows : List (List ℕ)
  pub targets : AreTargets g rows
  pub trail : IsTrail (numbers_at rows) starts visits
  pub once : IsOnce (points_of visits)
  pub complete : (p : ℕ) → IsReached (numbers_at rows) starts p → Contains (points_of visits) p

abbrev pub visit_at : List (Option Visit) → ℕ → Option Visit
visit_at table n = slice_index_or table n None

pub record IsTableOf (visits : List Visit) (table : List (Option Visit)) : Type 0 where
  pub only : (n : ℕ) (v : Visit) → visit_at table n ≡ Some v → Contains visits v × (v.point ≡ n)
  pub all : (v : Visit) → Contains visits v → (w : Visit) × (visit_at table v.point ≡ Some w)

abbrev pub IsStep : Numbered → ℕ → Option ℕ → Type 0
IsStep g to None = Unit {0}
IsStep g to (Some from) = HasSource (row_of g to) from

pub record IsKnown (g : Numbered) (points : List ℕ) (n : ℕ) (v : Visit) : Type 0 where
  pub point : v.point ≡ n
  pub vertex : n < length g.vertices
  pub root : Contains points v.root
  pub step : IsStep g n v.from

abbrev pub AreKnown : Numbered → List ℕ → List (Option Visit) → Type 0
AreKnown g points table = (n : ℕ) → Contains points n → (v : Visit) × (visit_at table n ≡ Some v) × IsKnown g points n v

pub record IsEdgeFrom (g : Numbered) (to from : ℕ) (e : Edge) : Type 0 where
  pub has : HasEdge g e
  pub leads : Leads e.kind
  pub into : slice_get g.vertices to ≡ Some e.to
  pub out : slice_get g.vertices from ≡ Some e.from

abbrev pub IsMadeBy : Numbered → ℕ → Option ℕ → Option Edge → Type 0
IsMadeBy g to None by = by ≡ None
IsMadeBy g to (Some from) by = (e : Edge) × (by ≡ Some e) × IsEdgeFrom g to from e

pub record IsMade (g : Numbered) (points : List ℕ) (v : Visit) (r : Reason) : Type 0 where
  pub point : slice_get g.vertices v.point ≡ Some r.point
  pub root : slice_get points r.root ≡ Some v.root
  pub by : IsMadeBy g v.point v.from r.by

pub record AreMade (g : Numbered) (points : List ℕ) (table : List (Option Visit)) (rs : List Reason) : Type 0 where
  pub count : length rs ≡ length points
  pub each : (i n : ℕ) (v : Visit) → slice_get points i ≡ Some n → visit_at table n ≡ Some v → (r : Reason) × (slice_get rs i ≡ Some r) × IsMade g points v r
