-- Graphs as a set of vertices and a set of edges.
--
-- Graph             == a set of vertices and a set of edges
-- IsWithin g h      == h has all vertices and all edges of g
-- Same g h          == g and h have the same vertices and the same edges
-- name_of v         == the name that a vertex defines: that of an Init vertex, or the one that the part
--                      defines
-- OnThird P k       == the loop of a carried edge has P, and so has the shared use of an order edge
-- HasVertices P e   == all vertices of the edge have P: its target, its source, and its loop or shared use
-- union_of g h      == what g has or h has
-- nothing           == the graph that has no vertex and no edge
-- restrict_to g P   == the vertices that have P, and the edges all of whose vertices have P
-- IsOnce xs         == nothing stands twice in the list
-- IsEdgeList g es   == the list has exactly the edges of g, each once
-- HasEdges g n      == g has exactly n edges
-- HasMoreEdges g n  == g has more than n edges
use Rattle.std.specs.Prelude.{◌≡◌, ℕ, ◌<◌, ◌⊎◌, ◌↔◌, Option, Some, None, List, Contains, slice_get, length}
use Rattle.hpr_syntax.specs.Rows.{assigned}
use Rattle.hpr_graph.specs.declared.vertex.Vertex.{Vertex}
use Rattle.hpr_graph.specs.declared.vertex.Vertex.TheVariants.{Entry, Init, Part, Final}
use Rattle.hpr_graph.specs.declared.edge.Kind.{Kind}
use Rattle.hpr_graph.specs.declared.edge.Kind.TheVariants.{Control, Independent, Carried, Order}
use Rattle.hpr_graph.specs.declared.edge.Edge.{Edge}

pub record Graph : Type 1 where
  pub vertex : Vertex → Type 0
  pub edge : Edge → Type 0

abbrev pub IsWithin : Graph → Graph → Type 0
IsWithin g h = ((v : Vertex) → g.vertex v → h.vertex v) × ((e : Edge) → g.edge e → h.edge e)

abbrev pub Same : Graph → Graph → Type 0
Same g h = ((v : Vertex) → g.vertex v ↔ h.vertex v) × ((e : Edge) → g.edge e ↔ h.edge e)

abbrev pub name_of : Vertex → Option (List ℕ)
name_of Entry = None
name_of (Init x) = Some x
name_of (Part t c) = assigned c
name_of (Final x) = None

abbrev pub OnThird : (Vertex → Type 0) → Kind → Type 0
OnThird P (Control label) = Unit {0}
OnThird P (Independent x) = Unit {0}
OnThird P (Carried x w) = P w
OnThird P (Order u) = P u

abbrev pub HasVertices : (Vertex → Type 0) → Edge → Type 0
HasVertices P e = P e.to × P e.from × OnThird P e.kind

abbrev pub union_of : Graph → Graph → Graph
union_of g h = record { vertex = λ v. g.vertex v ⊎ h.vertex v; edge = λ e. g.edge e ⊎ h.edge e }

abbrev pub nothing : Graph
nothing = record { vertex = λ v. ⊥; edge = λ e. ⊥ }

abbrev pub restrict_to : Graph → (Vertex → Type 0) → Graph
restrict_to g P = record { vertex = λ v. g.vertex v × P v; edge = λ e. g.edge e × HasVertices P e }

abbrev pub IsOnce : {X : Type 0} → List X → Type 0
IsOnce {X} xs = (i j : ℕ) (x : X) → slice_get xs i ≡ Some x → slice_get xs j ≡ Some x → i ≡ j

abbrev pub IsEdgeList : Graph → List Edge → Type 0
IsEdgeList g es = IsOnce es × ((e : Edge) → Contains es e ↔ g.edge e)

abbrev pub HasEdges : Graph → ℕ → Type 0
HasEdges g n = (es : List Edge) × IsEdgeList g es × (length es ≡ n)

abbrev pub HasMoreEdges : Graph → ℕ → Type 0
HasMoreEdges g n = (es : List Edge) × IsOnce es × ((e : Edge) → Contains es e → g.edge e) × (n < length es)
