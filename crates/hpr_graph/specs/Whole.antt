-- Graphs as those of programs are, as far as it matters to slices.
--
-- HasLoops g       == control and flow edges lead from the loop of each carried edge to the edge's target
-- LeadsRight g v w == a control or flow edge goes from v to w
-- HasUses g        == both ends of each order edge have a control or flow edge to its shared use
-- HasEnds g        == all vertices of its edges are vertices of the graph
-- IsWhole g        == all three: so a slice has with a vertex all edges into it, and with a use all order
--                     edges for it
-- AreAll P gs      == each of the graphs has P
-- IsListed g       == some list has exactly the edges of the graph
-- IsFinite g       == so has some list the vertices
-- SaysOnce t       == each part's tag says one content, as the distinct tags of a program do
use Rattle.std.specs.Prelude.{◌≡◌, ℕ, ◌↔◌, List, [], ◌∷◌, Contains}
use Rattle.hpr_terms.specs.declared.tag.Tag.{Tag}
use Rattle.hpr_syntax.specs.declared.rows.Content.{Content}
use Rattle.hpr_syntax.specs.Tree.{Tree}
use Rattle.hpr_syntax.specs.Nests.{Says}
use Rattle.hpr_graph.specs.declared.vertex.Vertex.{Vertex}
use Rattle.hpr_graph.specs.declared.edge.Kind.TheVariants.{Carried, Order}
use Rattle.hpr_graph.specs.declared.edge.Edge.{Edge}
use Rattle.hpr_graph.specs.Graphs.{Graph, HasVertices}
use Rattle.hpr_graph.specs.Slices.{Leads, LeadsTo}

abbrev pub HasLoops : Graph → Type 0
HasLoops g = (e : Edge) (x : List ℕ) (w : Vertex) → g.edge e → e.kind ≡ Carried x w → (es : List Edge) × LeadsTo g w es e.to

abbrev pub LeadsRight : Graph → Vertex → Vertex → Type 0
LeadsRight g from to = (f : Edge) × g.edge f × Leads f.kind × (f.from ≡ from) × (f.to ≡ to)

abbrev pub HasUses : Graph → Type 0
HasUses g = (e : Edge) (u : Vertex) → g.edge e → e.kind ≡ Order u → LeadsRight g e.from u × LeadsRight g e.to u

abbrev pub HasEnds : Graph → Type 0
HasEnds g = (e : Edge) → g.edge e → HasVertices g.vertex e

pub record IsWhole (g : Graph) : Type 0 where
  pub loops : HasLoops g
  pub uses : HasUses g
  pub ends : HasEnds g

abbrev pub AreAll : (Graph → Type 0) → List Graph → Type 0
AreAll P [] = Unit {0}
AreAll P (g ∷ gs) = P g × AreAll P gs

abbrev pub IsListed : Graph → Type 0
IsListed g = (es : List Edge) × ((e : Edge) → Contains es e ↔ g.edge e)

pub record IsFinite (g : Graph) : Type 0 where
  pub edges : IsListed g
  pub vertices : (vs : List Vertex) × ((v : Vertex) → Contains vs v ↔ g.vertex v)

abbrev pub SaysOnce : Tree → Type 0
SaysOnce t = (l : Tag) (c d : Content) → Says t.body l c → Says t.body l d → c ≡ d
