-- The JSON of a graph: an edge names its vertices by their places among the vertices, and members stand in
-- ascending order of their keys.
--
-- number_data n          == a number
-- control_data b from to == a control edge with this label, as an object
-- flow_data x from to    == an independent flow edge for this name
-- carried_data w x from to == a flow edge for this name that the loop at this place carries
-- order_data u from to   == an order edge for the shared use at this place
-- place_of vs v          == the place in the list, from 0, of the first vertex that ties with v
-- kind_data vs k from to == an edge of this kind between these places
-- edge_data vs e         == an edge, with the places of its vertices
-- graph_data vs es       == these vertices and these edges
-- IsGraphJson g text     == the text is the compact text of the graph's JSON, whose vertices and edges stand
--                           in their order, and a newline
use Rattle.std.specs.Prelude.{◌≡◌, ℕ, ◌+◌, Bool, List, [], ◌∷◌, ◌++◌, map, codes}
use Rattle.std.specs.Ordering.{match_ordering}
use Rattle.serde_json.specs.Data.{Data, boolean, number, unsigned, string, array, object, member, no_members}
use Rattle.serde_json.specs.View.{items_of}
use Rattle.serde_json.specs.Written.{compact_text}
use Rattle.hpr_graph.specs.declared.vertex.Vertex.{Vertex}
use Rattle.hpr_graph.specs.declared.edge.Kind.{Kind}
use Rattle.hpr_graph.specs.declared.edge.Kind.TheVariants.{Control, Independent, Carried, Order}
use Rattle.hpr_graph.specs.declared.edge.Edge.{Edge}
use Rattle.hpr_graph.specs.Graphs.{Graph}
use Rattle.hpr_graph.specs.Order.{vertex_cmp}
use Rattle.hpr_graph.specs.InOrder.{AreVerticesOf, AreEdgesOf}
use Rattle.hpr_report.specs.GraphTexts.{vertex_words}

abbrev pub number_data : ℕ → Data
number_data n = number (unsigned n)

abbrev pub control_data : Bool → ℕ → ℕ → Data
control_data label from to =
    object
    (member (codes "from") (number_data from)
    (member (codes "kind") (string (codes "control")) (member (codes "label") (boolean label) (member (codes "to") (number_data to) no_members))))

abbrev pub flow_data : List ℕ → ℕ → ℕ → Data
flow_data x from to =
    object
    (member (codes "from") (number_data from)
    (member (codes "kind") (string (codes "flow")) (member (codes "name") (string x) (member (codes "to") (number_data to) no_members))))

abbrev pub carried_data : ℕ → List ℕ → ℕ → ℕ → Data
carried_data w x from to =
    object
    (member (codes "from") (number_data from)
    (member (codes "kind") (string (codes "carried"))
    (member (codes "loop") (number_data w) (member (codes "name") (string x) (member (codes "to") (number_data to) no_members)))))

abbrev pub order_data : ℕ → ℕ → ℕ → Data
order_data u from to =
    object
    (member (codes "for") (number_data u)
    (member (codes "from") (number_data from) (member (codes "kind") (string (codes "order")) (member (codes "to") (number_data to) no_members))))

abbrev pub place_of : List Vertex → Vertex → ℕ
place_of [] v = 0
place_of (w ∷ ws) v = match_ordering (vertex_cmp w v) (1 + place_of ws v) 0 (1 + place_of ws v)

abbrev pub kind_data : List Vertex → Kind → ℕ → ℕ → Data
kind_data vs (Control label) from to = control_data label from to
kind_data vs (Independent x) from to = flow_data x from to
kind_data vs (Carried x w) from to = carried_data (place_of vs w) x from to
kind_data vs (Order u) from to = order_data (place_of vs u) from to

abbrev pub edge_data : List Vertex → Edge → Data
edge_data vs e = kind_data vs e.kind (place_of vs e.from) (place_of vs e.to)

abbrev pub graph_data : List Vertex → List Edge → Data
graph_data vs es =
    object
    (member (codes "edges") (array (items_of (map (edge_data vs) es)))
    (member (codes "vertices") (array (items_of (map (λ v. string (vertex_words v)) vs))) no_members))

abbrev pub IsGraphJson : Graph → List ℕ → Type 0
IsGraphJson g text = (vs : List Vertex) × (es : List Edge) × AreVerticesOf g vs × AreEdgesOf g es × (text ≡ compact_text (graph_data vs es) ++ codes "\n")
