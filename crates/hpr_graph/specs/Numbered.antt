-- A graph as its vertices in the order of adding, with the links into each.
--
-- Numbered           == the vertices by number, and for each the links into it
-- HasVertex g v      == v is a vertex
-- row_of g to        == the links into the vertex with this number
-- HasLink g to l     == l is a link into the vertex with this number
-- IsKindAt vs k from kind == the kind of a link, by numbers, is this kind of an edge from this source
-- IsEdgeAt vs to l e == the link l into the vertex number `to` is the edge e
-- HasEdge g e        == some link is the edge e
-- graph_in g         == the set of the vertices and the set of the edges
-- graphs_in gs       == the graphs by these numbers
-- IsLink g to l      == the link is an edge: its numbers are vertices, and the source of a flow edge defines
--                       a name
-- IsNumbered g       == no vertex stands twice, each has its links, none twice, and each link is an edge
-- link_count g       == how many links there are
-- IsCounted g n      == the same, and there are n links
-- rows_of rows       == the rows as lists
-- IsGrown g h        == each vertex of g keeps its number in h, and both have the same links
-- IsMarkedVertex g keep v == the vertex v is marked
use Rattle.std.specs.Prelude.{◌≡◌, ℕ, Bool, List, [], ◌∷◌, Option, Some, None, Contains, Vec, slice_get, length, map, sum_by}
use Rattle.std.specs.Global.{Global}
use Rattle.hpr_search.specs.Marks.{IsMarked}
use Rattle.hpr_graph.specs.declared.vertex.Vertex.{Vertex}
use Rattle.hpr_graph.specs.declared.edge.Kind.{Kind}
use Rattle.hpr_graph.specs.declared.edge.Kind.TheVariants as kind
use Rattle.hpr_graph.specs.declared.edge.Edge.{Edge}
use Rattle.hpr_graph.specs.declared.link.LinkKind.{LinkKind}
use Rattle.hpr_graph.specs.declared.link.LinkKind.TheVariants.{Control, Independent, Carried, Order}
use Rattle.hpr_graph.specs.declared.link.Link.{Link}
use Rattle.hpr_graph.specs.Graphs.{Graph, name_of, IsOnce}

pub record Numbered : Type 0 where
  pub vertices : List Vertex
  pub links : List (List Link)

abbrev pub HasVertex : Numbered → Vertex → Type 0
HasVertex g v = Contains g.vertices v

abbrev pub IsOneOf : Numbered → List ℕ → Vertex → Type 0
IsOneOf g ns v = (at : ℕ) × Contains ns at × (slice_get g.vertices at ≡ Some v)

abbrev pub row_items : Option (List Link) → List Link
row_items None = []
row_items (Some row) = row

abbrev pub row_of : Numbered → ℕ → List Link
row_of g to = row_items (slice_get g.links to)

abbrev pub HasLink : Numbered → ℕ → Link → Type 0
HasLink g to l = Contains (row_of g to) l

abbrev pub IsKindAt : List Vertex → LinkKind → Vertex → Kind → Type 0
IsKindAt vs (Control label) from k = k ≡ kind.Control label
IsKindAt vs Independent from k = (x : List ℕ) × (name_of from ≡ Some x) × (k ≡ kind.Independent x)
IsKindAt vs (Carried w) from k = (x : List ℕ) × (v : Vertex) × (name_of from ≡ Some x) × (slice_get vs w ≡ Some v) × (k ≡ kind.Carried x v)
IsKindAt vs (Order u) from k = (v : Vertex) × (slice_get vs u ≡ Some v) × (k ≡ kind.Order v)

abbrev pub IsEdgeAt : List Vertex → ℕ → Link → Edge → Type 0
IsEdgeAt vs to l e = (slice_get vs to ≡ Some e.to) × (slice_get vs l.from ≡ Some e.from) × IsKindAt vs l.kind e.from e.kind

abbrev pub HasEdge : Numbered → Edge → Type 0
HasEdge g e = (to : ℕ) × (l : Link) × HasLink g to l × IsEdgeAt g.vertices to l e

abbrev pub graph_in : Numbered → Graph
graph_in g = record { vertex = HasVertex g; edge = HasEdge g }

abbrev pub graphs_in : List Numbered → List Graph
graphs_in [] = []
graphs_in (g ∷ gs) = graph_in g ∷ graphs_in gs

abbrev pub IsLink : Numbered → ℕ → Link → Type 0
IsLink g to l = (e : Edge) × IsEdgeAt g.vertices to l e

pub record IsNumbered (g : Numbered) : Type 0 where
  pub once : IsOnce g.vertices
  pub rows : length g.links ≡ length g.vertices
  pub links_once : (to : ℕ) → IsOnce (row_of g to)
  pub links : (to : ℕ) (l : Link) → HasLink g to l → IsLink g to l

abbrev pub link_count : Numbered → ℕ
link_count g = sum_by (λ row. length row) g.links

pub record IsCounted (g : Numbered) (n : ℕ) : Type 0 where
  pub numbered : IsNumbered g
  pub count : n ≡ link_count g

abbrev pub rows_of : List (Vec Link Global) → List (List Link)
rows_of rows = map (λ row. row.items) rows

pub record IsGrown (old new : Numbered) : Type 0 where
  pub vertices : (at : ℕ) (v : Vertex) → slice_get old.vertices at ≡ Some v → slice_get new.vertices at ≡ Some v
  pub kept : (at : ℕ) (l : Link) → HasLink old at l → HasLink new at l
  pub only : (at : ℕ) (l : Link) → HasLink new at l → HasLink old at l

abbrev pub IsMarkedVertex : Numbered → List Bool → Vertex → Type 0
IsMarkedVertex g keep v = (at : ℕ) × (slice_get g.vertices at ≡ Some v) × IsMarked keep at
