-- Vertices and edges as JSON, with where they stand. Members stand in ascending order of their keys.
--
-- place_data spot    == the first byte from 0, the line and the column from 1, the length in bytes, and the file
-- with_member k m d  == the object d with this member; what is no object stays
-- with_place spot d  == the object with the member `place`, or as it is where there is no spot
-- located_data ss v  == a vertex, with where it stands in the first of the files in which it stands
-- located_kind ss k from to == an edge of this kind between these ends
-- located_edge ss e  == an edge between such vertices
-- located_conflict ss c == a conflict: the number of its variant, its point, and the edge that shows it
use Rattle.std.specs.Prelude.{ℕ, List, None, Option, Some, codes}
use Rattle.serde_json.specs.Data.{Data, null, boolean, number, string, array, object, member, no_members, put}
use Rattle.hpr_graph.specs.declared.vertex.Vertex.{Vertex}
use Rattle.hpr_graph.specs.declared.edge.Kind.{Kind}
use Rattle.hpr_graph.specs.declared.edge.Kind.TheVariants.{Control, Independent, Carried, Order}
use Rattle.hpr_graph.specs.declared.edge.Edge.{Edge}
use Rattle.hpr_graph.specs.declared.conflict.ManyConflict.{ManyConflict}
use Rattle.hpr_report.specs.GraphJson.{number_data}
use Rattle.hpr_json.specs.Vertices.{vertex_data, kind_data, carried_data, order_data}
use Rattle.hpr_located.specs.Sources.{Standing, Spot, spot_of}

abbrev pub place_data : Spot → Data
place_data (file, l) =
    object
    (member (codes "byte") (number_data l.place.first)
    (member (codes "column") (number_data l.column)
    (member (codes "file") (string file)
    (member (codes "length") (number_data l.place.length) (member (codes "line") (number_data l.line) no_members)))))

abbrev pub with_member : List ℕ → Data → Data → Data
with_member k m (object ms) = object (put k m ms)
with_member k m null = null
with_member k m (boolean b) = boolean b
with_member k m (number n) = number n
with_member k m (string s) = string s
with_member k m (array ds) = array ds

abbrev pub with_place : Option Spot → Data → Data
with_place None d = d
with_place (Some spot) d = with_member (codes "place") (place_data spot) d

abbrev pub located_data : List Standing → Vertex → Data
located_data ss v = with_place (spot_of ss v) (vertex_data v)

abbrev pub located_kind : List Standing → Kind → Data → Data → Data
located_kind ss (Control label) from to = kind_data (Control label) from to
located_kind ss (Independent x) from to = kind_data (Independent x) from to
located_kind ss (Carried x w) from to = carried_data x (located_data ss w) from to
located_kind ss (Order u) from to = order_data (located_data ss u) from to

abbrev pub located_edge : List Standing → Edge → Data
located_edge ss e = located_kind ss e.kind (located_data ss e.from) (located_data ss e.to)

abbrev pub located_conflict : List Standing → ManyConflict → Data
located_conflict ss c =
    object
    (member (codes "edge") (located_edge ss c.edge)
    (member (codes "point") (located_data ss c.point) (member (codes "variant") (number_data c.variant) no_members)))
