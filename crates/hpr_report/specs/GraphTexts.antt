-- The texts of vertices, edges and graphs.
--
-- vertex_words v   == what a vertex is, as its text has it between the brackets
-- vertex_text v    == a vertex in brackets
-- label_word b     == true or false
-- kind_text k ends == an edge of this kind, with the text of both ends
-- edge_text e      == an edge, from its source to its target
-- on_lines texts   == each of the texts on a line of its own
-- graph_text vs es == these vertices and these edges, each list with its length before it
-- IsGraphText g text == the text is that of the graph, whose vertices and edges stand in their order
use Rattle.std.specs.Prelude.{◌≡◌, ℕ, Bool, if◌then◌else◌, List, ◌++◌, length, map, flat_map, codes}
use Rattle.std.specs.Fmt.{decimal}
use Rattle.hpr_terms.specs.Texts.{tag_text}
use Rattle.hpr_syntax.specs.Print.{content_text}
use Rattle.hpr_graph.specs.declared.vertex.Vertex.{Vertex}
use Rattle.hpr_graph.specs.declared.vertex.Vertex.TheVariants.{Entry, Init, Part, Final}
use Rattle.hpr_graph.specs.declared.edge.Kind.{Kind}
use Rattle.hpr_graph.specs.declared.edge.Kind.TheVariants.{Control, Independent, Carried, Order}
use Rattle.hpr_graph.specs.declared.edge.Edge.{Edge}
use Rattle.hpr_graph.specs.Graphs.{Graph}
use Rattle.hpr_graph.specs.InOrder.{AreVerticesOf, AreEdgesOf}

abbrev pub vertex_words : Vertex → List ℕ
vertex_words Entry = codes "entry"
vertex_words (Init x) = codes "init " ++ x
vertex_words (Part t c) = tag_text t ++ codes " " ++ content_text c
vertex_words (Final x) = codes "final " ++ x

abbrev pub vertex_text : Vertex → List ℕ
vertex_text v = codes "[" ++ vertex_words v ++ codes "]"

abbrev pub label_word : Bool → List ℕ
label_word b = if b then codes "true" else codes "false"

abbrev pub kind_text : Kind → List ℕ → List ℕ
kind_text (Control label) ends = codes "control " ++ label_word label ++ codes " " ++ ends
kind_text (Independent x) ends = codes "flow " ++ x ++ codes " " ++ ends
kind_text (Carried x w) ends = codes "carried " ++ x ++ codes " " ++ ends ++ codes " by " ++ vertex_text w
kind_text (Order u) ends = codes "order " ++ ends ++ codes " for " ++ vertex_text u

abbrev pub edge_text : Edge → List ℕ
edge_text e = kind_text e.kind (vertex_text e.from ++ codes " -> " ++ vertex_text e.to)

abbrev pub on_lines : List (List ℕ) → List ℕ
on_lines texts = flat_map (λ text. text ++ codes "\n") texts

abbrev pub graph_text : List Vertex → List Edge → List ℕ
graph_text vs es =
    codes "vertices " ++ decimal (length vs) ++ codes "\n" ++ on_lines (map vertex_text vs)
    ++ codes "edges " ++ decimal (length es) ++ codes "\n" ++ on_lines (map edge_text es)

abbrev pub IsGraphText : Graph → List ℕ → Type 0
IsGraphText g text = (vs : List Vertex) × (es : List Edge) × AreVerticesOf g vs × AreEdgesOf g es × (text ≡ graph_text vs es)
