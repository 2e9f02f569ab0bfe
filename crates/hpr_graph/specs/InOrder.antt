-- The vertices and the edges of a graph in their order.
--
-- Ascends cmp xs       == each item comes before those behind it
-- AreVerticesOf g vs   == the list has exactly the vertices of g, in their order
-- AreEdgesOf g es      == the list has exactly the edges of g, in their order
-- RowsAscend cmp g     == the links into each vertex ascend
-- vertex_at vs i       == the vertex with this number
-- name_at vs i         == the name that it defines
-- kind_of vs k from    == the kind of a link from the vertex with this number, by vertices
-- edge_of vs to l      == the edge that the link l into the vertex number `to` is
-- row_edges g to       == the edges into the vertex number `to`, in the order of their links
-- edges_from vs n rows == the edges of these rows, whose first is that of the vertex number n
-- edges_of g           == the edges row by row
use Rattle.std.specs.Prelude.{◌≡◌, ℕ, ◌+◌, ◌<◌, ◌↔◌, Some, unwrap_or, List, [], ◌∷◌, ◌++◌, map, Contains, slice_get, slice_index_or}
use Rattle.std.specs.declared.cmp.Ordering.{Ordering}
use Rattle.std.specs.declared.cmp.Ordering.TheVariants.{Less}
use Rattle.hpr_graph.specs.declared.vertex.Vertex.{Vertex}
use Rattle.hpr_graph.specs.declared.vertex.Vertex.TheVariants.{Entry}
use Rattle.hpr_graph.specs.declared.edge.Kind.{Kind}
use Rattle.hpr_graph.specs.declared.edge.Kind.TheVariants as kind
use Rattle.hpr_graph.specs.declared.edge.Edge.{Edge}
use Rattle.hpr_graph.specs.declared.link.LinkKind.{LinkKind}
use Rattle.hpr_graph.specs.declared.link.LinkKind.TheVariants.{Control, Independent, Carried, Order}
use Rattle.hpr_graph.specs.declared.link.Link.{Link}
use Rattle.hpr_graph.specs.Graphs.{Graph, name_of}
use Rattle.hpr_graph.specs.Numbered.{Numbered, row_of}
use Rattle.hpr_graph.specs.Order.{vertex_cmp, edge_cmp}

abbrev pub Ascends : {X : Type 0} → (X → X → Ordering) → List X → Type 0
Ascends {X} cmp xs = (i j : ℕ) (x y : X) → i < j → slice_get xs i ≡ Some x → slice_get xs j ≡ Some y → cmp x y ≡ Less

abbrev pub AreVerticesOf : Graph → List Vertex → Type 0
AreVerticesOf g vs = Ascends vertex_cmp vs × ((v : Vertex) → Contains vs v ↔ g.vertex v)

abbrev pub AreEdgesOf : Graph → List Edge → Type 0
AreEdgesOf g es = Ascends edge_cmp es × ((e : Edge) → Contains es e ↔ g.edge e)

abbrev pub RowsAscend : (Link → Link → Ordering) → Numbered → Type 0
RowsAscend cmp g = (at : ℕ) → Ascends cmp (row_of g at)

abbrev pub vertex_at : List Vertex → ℕ → Vertex
vertex_at vs i = slice_index_or vs i Entry

abbrev pub name_at : List Vertex → ℕ → List ℕ
name_at vs i = unwrap_or (name_of (vertex_at vs i)) []

abbrev pub kind_of : List Vertex → LinkKind → ℕ → Kind
kind_of vs (Control label) from = kind.Control label
kind_of vs Independent from = kind.Independent (name_at vs from)
kind_of vs (Carried w) from = kind.Carried (name_at vs from) (vertex_at vs w)
kind_of vs (Order u) from = kind.Order (vertex_at vs u)

abbrev pub edge_of : List Vertex → ℕ → Link → Edge
edge_of vs to l = record { to = vertex_at vs to; from = vertex_at vs l.from; kind = kind_of vs l.kind l.from }

abbrev pub row_edges : Numbered → ℕ → List Edge
row_edges g to = map (edge_of g.vertices to) (row_of g to)

abbrev pub edges_from : List Vertex → ℕ → List (List Link) → List Edge
edges_from vs n [] = []
edges_from vs n (row ∷ rows) = map (edge_of vs n) row ++ edges_from vs (n + 1) rows

abbrev pub edges_of : Numbered → List Edge
edges_of g = edges_from g.vertices 0 g.links
