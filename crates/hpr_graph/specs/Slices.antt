-- Slices of a graph (Reps and Yang 1988).
--
-- Leads kind         == a slice follows edges of this kind: control and flow edges
-- LeadsTo g a es b   == the edges, in order, are control and flow edges of g that lead from a to b; with no
--                       edges a is b
-- ReachesOne g S v   == control and flow edges lead from v to a vertex of S
-- slice_of g S       == the vertices of g from which a vertex of S is reached, and the edges all of whose
--                       vertices are among them
-- slice_at g v       == the slice of the one vertex v
-- IsReached g S v    == control and flow edges lead from a vertex of S to v
use Rattle.std.specs.Prelude.{◌≡◌, List, [], ◌∷◌}
use Rattle.hpr_graph.specs.declared.vertex.Vertex.{Vertex}
use Rattle.hpr_graph.specs.declared.edge.Kind.{Kind}
use Rattle.hpr_graph.specs.declared.edge.Kind.TheVariants.{Control, Independent, Carried, Order}
use Rattle.hpr_graph.specs.declared.edge.Edge.{Edge}
use Rattle.hpr_graph.specs.Graphs.{Graph, restrict_to}

abbrev pub Leads : Kind → Type 0
Leads (Control label) = Unit {0}
Leads (Independent x) = Unit {0}
Leads (Carried x w) = Unit {0}
Leads (Order u) = ⊥

abbrev pub LeadsTo : Graph → Vertex → List Edge → Vertex → Type 0
LeadsTo g a [] b = a ≡ b
LeadsTo g a (e ∷ es) b = g.edge e × Leads e.kind × (e.from ≡ a) × LeadsTo g e.to es b

abbrev pub ReachesOne : Graph → (Vertex → Type 0) → Vertex → Type 0
ReachesOne g S v = (s : Vertex) × (es : List Edge) × S s × LeadsTo g v es s

abbrev pub slice_of : Graph → (Vertex → Type 0) → Graph
slice_of g S = restrict_to g (ReachesOne g S)

abbrev pub slice_at : Graph → Vertex → Graph
slice_at g v = slice_of g (λ s. s ≡ v)

abbrev pub IsReached : Graph → (Vertex → Type 0) → Vertex → Type 0
IsReached g S v = (s : Vertex) × (es : List Edge) × S s × LeadsTo g s es v
