-- What a change can reach, and reasons, as JSON. Members stand in ascending order of their keys.
--
-- listed_data ds      == these as points, and the status
-- IsImpactData ss P d == d tells the vertices that have P, in their order, with where they stand in the
--                        files ss
-- by_member ss by ms  == the edge by which a point is reached, if there is one, in front of these members
-- reason_data ss r    == a reason: this edge, whether the point is directly affected, the point, and the place
--                        of its root among the points
-- reasons_data ss rs  == these reasons
use Rattle.std.specs.Prelude.{◌≡◌, Option, Some, None, List, is_none, map, codes}
use Rattle.serde_json.specs.Data.{Data, Members, boolean, string, array, object, member, no_members}
use Rattle.serde_json.specs.View.{items_of}
use Rattle.hpr_graph.specs.declared.vertex.Vertex.{Vertex}
use Rattle.hpr_graph.specs.declared.edge.Edge.{Edge}
use Rattle.hpr_report.specs.AffectedText.{ArePoints}
use Rattle.hpr_report.specs.GraphJson.{number_data}
use Rattle.hpr_located.specs.Shown.{located_data, located_edge}
use Rattle.hpr_located.specs.Sources.{Standing}
use Rattle.hpr_impact.specs.declared.why.Reason.{Reason}

abbrev pub listed_data : List Data → Data
listed_data ds = object (member (codes "points") (array (items_of ds)) (member (codes "status") (string (codes "done")) no_members))

abbrev pub IsImpactData : List Standing → (Vertex → Type 0) → Data → Type 0
IsImpactData ss P d = (vs : List Vertex) × ArePoints P vs × (d ≡ listed_data (map (located_data ss) vs))

abbrev pub by_member : List Standing → Option Edge → Members → Members
by_member ss None ms = ms
by_member ss (Some e) ms = member (codes "by") (located_edge ss e) ms

abbrev pub reason_data : List Standing → Reason → Data
reason_data ss r =
    object
    (by_member ss r.by
    (member (codes "direct") (boolean (is_none r.by))
    (member (codes "point") (located_data ss r.point) (member (codes "root") (number_data r.root) no_members))))

abbrev pub reasons_data : List Standing → List Reason → Data
reasons_data ss rs = listed_data (map (reason_data ss) rs)
