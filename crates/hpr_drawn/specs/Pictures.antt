-- Pictures of graphs, as texts for Graphviz: what vertices and edges there are, how each looks, and which
-- stand below each other.
--
-- escaped b           == the byte, behind a backslash where it is a quote or a backslash
-- quoted text         == in quotes, each byte as it stands there
-- short_words v       == the tag of a part, and what any other vertex is
-- name v              == the name of a vertex in the picture
-- node_line v         == the line of a vertex, whose label is its text
-- names_text w vs     == the names of these vertices, each behind the word w
-- row_line vs         == these vertices stand side by side
-- column_line is ps fs == the vertices ps stand one below the other, in order, below the entry and the first
--                        of the vertices is, and above the first of fs
-- parts_of p          == the vertices of a program's parts, in preorder
-- is_init v, is_final v == v is an Init, a Final
-- nodes_text vs       == the lines of these vertices
-- rows_text is ps fs  == the lines of the entry and of these vertices, and which stand side by side or below
-- vertices_text ps vs == the same for the Inits of vs, the parts ps and the Finals of vs
-- labelled text       == with this text beside it
-- look k              == how an edge of this kind looks, and what stands beside it
-- edge_line e         == the line of an edge
-- is_drawn out k      == edges of this kind are not left out
-- drawn_line out e    == the same, or nothing where its kind is left out
-- edges_text out es   == the lines of these edges, in order
-- looks               == how vertices and what stands beside edges look
-- dot_text out ps vs es == the picture of these parts, the other ones of these vertices, and these edges
-- IsPicture out p g text == the text is the picture of the graph of the program p, whose vertices and edges
--                        stand in their order
use Rattle.std.specs.Prelude.{◌≡◌, ℕ, ◌==◌, Bool, true, false, not, ◌||◌, if◌then◌else◌, None, List, [], ◌∷◌, ◌++◌, map, filter, flat_map, take, codes}
use Rattle.hpr_terms.specs.Texts.{tag_text}
use Rattle.hpr_syntax.specs.Rows.{rows_of}
use Rattle.hpr_syntax.specs.Tree.{Tree}
use Rattle.hpr_graph.specs.declared.vertex.Vertex.{Vertex}
use Rattle.hpr_graph.specs.declared.vertex.Vertex.TheVariants.{Entry, Init, Part, Final}
use Rattle.hpr_graph.specs.declared.edge.Kind.{Kind}
use Rattle.hpr_graph.specs.declared.edge.Kind.TheVariants.{Control, Independent, Carried, Order}
use Rattle.hpr_graph.specs.declared.edge.Edge.{Edge}
use Rattle.hpr_graph.specs.Graphs.{Graph}
use Rattle.hpr_graph.specs.InOrder.{AreEdgesOf, AreVerticesOf}
use Rattle.hpr_report.specs.GraphTexts.{vertex_words}
use Rattle.hpr_located.specs.Sources.{part_vertex}
use Rattle.hpr_drawn.specs.declared.dot.LeftOut.{LeftOut}

-- a byte in quotes; 34 is a quote, 92 a backslash
abbrev pub escaped : ℕ → List ℕ
escaped b = if (b == 34) || (b == 92) then 92 ∷ b ∷ [] else b ∷ []

abbrev pub quoted : List ℕ → List ℕ
quoted text = 34 ∷ [] ++ flat_map escaped text ++ 34 ∷ []

abbrev pub short_words : Vertex → List ℕ
short_words Entry = vertex_words Entry
short_words (Init x) = vertex_words (Init x)
short_words (Part t c) = tag_text t
short_words (Final x) = vertex_words (Final x)

abbrev pub name : Vertex → List ℕ
name v = quoted (short_words v)

abbrev pub node_line : Vertex → List ℕ
node_line v = codes "  " ++ name v ++ codes " [label=" ++ quoted (vertex_words v) ++ codes "]\n"

abbrev pub names_text : List ℕ → List Vertex → List ℕ
names_text w vs = flat_map (λ v. w ++ name v) vs

abbrev pub row_line : List Vertex → List ℕ
row_line vs = codes "  {rank=same" ++ names_text (codes "; ") vs ++ codes "}\n"

abbrev pub column_line : List Vertex → List Vertex → List Vertex → List ℕ
column_line is ps fs =
    codes "  {edge [style=invis weight=0]; " ++ name Entry ++ names_text (codes " -> ") (take 1 is)
    ++ names_text (codes " -> ") ps ++ names_text (codes " -> ") (take 1 fs) ++ codes "}\n"

abbrev pub parts_of : Tree → List Vertex
parts_of program = map part_vertex (rows_of None 0 program.body)

abbrev pub is_init : Vertex → Bool
is_init Entry = false
is_init (Init x) = true
is_init (Part t c) = false
is_init (Final x) = false

abbrev pub is_final : Vertex → Bool
is_final Entry = false
is_final (Init x) = false
is_final (Part t c) = false
is_final (Final x) = true

abbrev pub nodes_text : List Vertex → List ℕ
nodes_text vs = flat_map node_line vs

abbrev pub rows_text : List Vertex → List Vertex → List Vertex → List ℕ
rows_text is ps fs =
    node_line Entry ++ nodes_text is ++ nodes_text ps ++ nodes_text fs
    ++ row_line is ++ row_line fs ++ column_line is ps fs

abbrev pub vertices_text : List Vertex → List Vertex → List ℕ
vertices_text ps vs = rows_text (filter is_init vs) ps (filter is_final vs)

abbrev pub labelled : List ℕ → List ℕ
labelled text = codes "label=" ++ quoted text

-- control edges pull their ends together the most, so that what a part decides stands below it; a carried
-- edge may go up, and moves nothing
abbrev pub look : Kind → List ℕ
look (Control true) = codes "weight=4"
look (Control false) = labelled (codes " false") ++ codes " weight=4"
look (Independent x) = labelled (codes " " ++ x) ++ codes " color=blue fontcolor=blue weight=1"
look (Carried x w) =
    labelled (codes " " ++ x ++ codes " by " ++ short_words w)
    ++ codes " color=blue fontcolor=blue style=dashed constraint=false"
look (Order u) =
    labelled (codes " for " ++ short_words u)
    ++ codes " color=gray70 fontcolor=gray55 style=dotted arrowsize=0.6 weight=0"

abbrev pub edge_line : Edge → List ℕ
edge_line e =
    codes "  " ++ name e.from ++ codes " -> " ++ name e.to ++ codes " [" ++ look e.kind ++ codes "]\n"

abbrev pub is_drawn : LeftOut → Kind → Bool
is_drawn out (Control label) = not out.control
is_drawn out (Independent x) = not out.flow
is_drawn out (Carried x w) = not out.flow
is_drawn out (Order u) = not out.order

abbrev pub drawn_line : LeftOut → Edge → List ℕ
drawn_line out e = if is_drawn out e.kind then edge_line e else []

abbrev pub edges_text : LeftOut → List Edge → List ℕ
edges_text out es = flat_map (drawn_line out) es

abbrev pub looks : List ℕ
looks = codes "  node [shape=box fontname=monospace fontsize=11 height=0.3]\n  edge [fontname=monospace fontsize=9]\n"

abbrev pub dot_text : LeftOut → List Vertex → List Vertex → List Edge → List ℕ
dot_text out ps vs es =
    codes "digraph {\n" ++ looks ++ vertices_text ps vs ++ edges_text out es ++ codes "}\n"

abbrev pub IsPicture : LeftOut → Tree → Graph → List ℕ → Type 0
IsPicture out program g text =
    (vs : List Vertex) × (es : List Edge) × AreVerticesOf g vs × AreEdgesOf g es
    × (text ≡ dot_text out (parts_of program) vs es)
