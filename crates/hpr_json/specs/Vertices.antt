-- Vertices, edges and conflicts as JSON. Members stand in ascending order of their keys.
--
-- named_data kind x     == a vertex of this kind with a name
-- vertex_data v         == a vertex: its kind, and its name, or its tag and what it says
-- carried_data x w from to == a flow edge for this name between these ends, which this loop carries
-- order_data u from to  == an order edge between these ends, for this shared use
-- kind_data k from to   == an edge of this kind between these ends
-- edge_data e           == an edge: its kind, its ends, and its label, name, loop or shared use
-- conflict_data (n,p,e) == a conflict: the number of its variant, its point, and the edge that shows it
-- many_conflict_data c  == a conflict of one of many variants
use Rattle.std.specs.Prelude.{ℕ, List, codes}
use Rattle.serde_json.specs.Data.{Data, boolean, string, object, member, no_members}
use Rattle.hpr_terms.specs.Texts.{tag_text}
use Rattle.hpr_syntax.specs.Print.{content_text}
use Rattle.hpr_graph.specs.declared.vertex.Vertex.{Vertex}
use Rattle.hpr_graph.specs.declared.vertex.Vertex.TheVariants.{Entry, Init, Part, Final}
use Rattle.hpr_graph.specs.declared.edge.Kind.{Kind}
use Rattle.hpr_graph.specs.declared.edge.Kind.TheVariants.{Control, Independent, Carried, Order}
use Rattle.hpr_graph.specs.declared.edge.Edge.{Edge}
use Rattle.hpr_graph.specs.declared.conflict.ManyConflict.{ManyConflict}
use Rattle.hpr_report.specs.GraphJson.{number_data}

abbrev pub named_data : List ℕ → List ℕ → Data
named_data kind x = object (member (codes "kind") (string kind) (member (codes "name") (string x) no_members))

abbrev pub vertex_data : Vertex → Data
vertex_data Entry = object (member (codes "kind") (string (codes "entry")) no_members)
vertex_data (Init x) = named_data (codes "init") x
vertex_data (Part t c) =
    object
    (member (codes "content") (string (content_text c))
    (member (codes "kind") (string (codes "part")) (member (codes "tag") (string (tag_text t)) no_members)))
vertex_data (Final x) = named_data (codes "final") x

abbrev pub carried_data : List ℕ → Data → Data → Data → Data
carried_data x carrier from to =
    object
    (member (codes "from") from
    (member (codes "kind") (string (codes "carried"))
    (member (codes "loop") carrier (member (codes "name") (string x) (member (codes "to") to no_members)))))

abbrev pub order_data : Data → Data → Data → Data
order_data used from to =
    object
    (member (codes "for") used
    (member (codes "from") from (member (codes "kind") (string (codes "order")) (member (codes "to") to no_members))))

abbrev pub kind_data : Kind → Data → Data → Data
kind_data (Control label) from to =
    object
    (member (codes "from") from
    (member (codes "kind") (string (codes "control")) (member (codes "label") (boolean label) (member (codes "to") to no_members))))
kind_data (Independent x) from to =
    object
    (member (codes "from") from
    (member (codes "kind") (string (codes "flow")) (member (codes "name") (string x) (member (codes "to") to no_members))))
kind_data (Carried x w) from to = carried_data x (vertex_data w) from to
kind_data (Order u) from to = order_data (vertex_data u) from to

abbrev pub edge_data : Edge → Data
edge_data e = kind_data e.kind (vertex_data e.from) (vertex_data e.to)

abbrev pub conflict_data : ℕ × Vertex × Edge → Data
conflict_data (variant, point, edge) =
    object
    (member (codes "edge") (edge_data edge)
    (member (codes "point") (vertex_data point) (member (codes "variant") (number_data variant) no_members)))

abbrev pub many_conflict_data : ManyConflict → Data
many_conflict_data c = conflict_data (c.variant, c.point, c.edge)
