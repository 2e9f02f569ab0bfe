-- The answers of `integrate`, `affected` and `graph` as JSON, and the line of an answer.
--
-- program_data text  == the merged program has this canonical text
-- conflicts_data cs  == the variants interfere: these are all conflicts
-- no_program_data n  == no program has the merged graph, which has so many parts
-- spent_data n       == none of the first n arrangements has the merged graph
-- points_data vs     == these are the affected points
-- IsPointsData P d   == d tells the vertices that have P, in their order
-- graph_data vs es   == the graph has these vertices and these edges, whose vertices are named by their
--                       places in the list
-- IsGraphData g d    == d tells the vertices and the edges of the graph, in their order
-- json_line d        == the compact text of d and a newline
use Rattle.std.specs.Prelude.{◌≡◌, ℕ, List, ◌++◌, map, codes}
use Rattle.serde_json.specs.Data.{Data, string, array, object, member, no_members}
use Rattle.serde_json.specs.View.{items_of}
use Rattle.serde_json.specs.Written.{compact_text}
use Rattle.hpr_graph.specs.declared.vertex.Vertex.{Vertex}
use Rattle.hpr_graph.specs.declared.edge.Edge.{Edge}
use Rattle.hpr_graph.specs.declared.conflict.ManyConflict.{ManyConflict}
use Rattle.hpr_graph.specs.Graphs.{Graph}
use Rattle.hpr_graph.specs.InOrder.{AreEdgesOf, AreVerticesOf}
use Rattle.hpr_report.specs.AffectedText.{ArePoints}
use Rattle.hpr_report.specs.GraphJson as by_places
use Rattle.hpr_report.specs.GraphJson.{number_data}
use Rattle.hpr_json.specs.Vertices.{vertex_data, many_conflict_data}

abbrev pub program_data : List ℕ → Data
program_data text = object (member (codes "program") (string text) (member (codes "status") (string (codes "done")) no_members))

abbrev pub conflicts_data : List ManyConflict → Data
conflicts_data cs =
    object
    (member (codes "conflicts") (array (items_of (map many_conflict_data cs)))
    (member (codes "status") (string (codes "interference")) no_members))

abbrev pub no_program_data : ℕ → Data
no_program_data n = object (member (codes "parts") (number_data n) (member (codes "status") (string (codes "no program")) no_members))

abbrev pub spent_data : ℕ → Data
spent_data n = object (member (codes "status") (string (codes "spent")) (member (codes "tries") (number_data n) no_members))

abbrev pub points_data : List Vertex → Data
points_data vs =
    object
    (member (codes "points") (array (items_of (map vertex_data vs))) (member (codes "status") (string (codes "done")) no_members))

abbrev pub IsPointsData : (Vertex → Type 0) → Data → Type 0
IsPointsData P d = (vs : List Vertex) × ArePoints P vs × (d ≡ points_data vs)

abbrev pub graph_data : List Vertex → List Edge → Data
graph_data vs es =
    object
    (member (codes "edges") (array (items_of (map (by_places.edge_data vs) es)))
    (member (codes "status") (string (codes "done")) (member (codes "vertices") (array (items_of (map vertex_data vs))) no_members)))

abbrev pub IsGraphData : Graph → Data → Type 0
IsGraphData g d = (vs : List Vertex) × (es : List Edge) × AreVerticesOf g vs × AreEdgesOf g es × (d ≡ graph_data vs es)

abbrev pub json_line : Data → List ℕ
json_line d = compact_text d ++ codes "\n"
