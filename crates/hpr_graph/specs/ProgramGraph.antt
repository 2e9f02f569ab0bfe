-- The dependence graph of a program (Horwitz, Prins and Reps 1989). A loop encloses its own predicate, and a
-- while predicate has no control edge to itself, which some definitions give it.
--
-- Defines tree x v a         == the vertex v defines x at the point a: Init(x) at Enter, a part where it
--                               stands
-- Reads tree x v a           == the vertex v uses x at the point a: a part where it stands, Final(x) at Exit
-- IsFlowPath tree x from to a z marks == an undisturbed path for x goes from `from`, which defines x, at a to
--                                        `to`, which uses x, at z
-- AvoidsCommon tree a z marks == no mark is of the back edge to a loop that encloses both points
-- IsIndependent tree x from to == some such path takes no back edge to a loop that encloses both ends
-- IsCarried tree x w from to == some such path takes the back edge to the loop w, which encloses both ends
-- HasFlow tree x from to     == a flow edge for x goes from one to the other
-- IsOrder tree u from to     == both define one variable and have a flow edge to u, no conditional has them
--                               in different branches, and `from` stands to the left
-- IsTop tree v               == Entry controls v: a top part, an Init or a Final vertex
-- IsControl tree label from to == a control edge with this label goes from one to the other
-- IsVertexOf tree v          == Entry; Init(x) for an initial definition; each part with what it says;
--                               Final(x) for a name of `end`
-- IsEdgeOf tree e            == e is a control, flow or order edge of the program
-- graph_of tree              == the graph of the program
use Rattle.std.specs.Prelude.{◌≡◌, ℕ, Bool, true, ◌⊎◌, Option, Some, None, List, Contains}
use Rattle.hpr_terms.specs.declared.tag.Tag.{Tag}
use Rattle.hpr_syntax.specs.Contents.{UsesIn}
use Rattle.hpr_syntax.specs.declared.rows.Content.{Content}
use Rattle.hpr_syntax.specs.Tree.{Tree}
use Rattle.hpr_syntax.specs.Skeleton.{Point, enter, at, exit, skeleton}
use Rattle.hpr_syntax.specs.Rows.{assigned}
use Rattle.hpr_syntax.specs.Nests.{Standing, StandsAsIn, Says}
use Rattle.hpr_syntax.specs.Places.{StandsLeft, Parted, EnclosesBoth}
use Rattle.hpr_syntax.specs.Paths.{IsUndisturbed}
use Rattle.hpr_syntax.specs.Initial.{IsInitial}
use Rattle.hpr_graph.specs.declared.vertex.Vertex.{Vertex}
use Rattle.hpr_graph.specs.declared.vertex.Vertex.TheVariants.{Entry, Init, Part, Final}
use Rattle.hpr_graph.specs.declared.edge.Kind.{Kind}
use Rattle.hpr_graph.specs.declared.edge.Kind.TheVariants.{Control, Independent, Carried, Order}
use Rattle.hpr_graph.specs.declared.edge.Edge.{Edge}
use Rattle.hpr_graph.specs.Graphs.{Graph}

abbrev pub Defines : Tree → List ℕ → Vertex → Point → Type 0
Defines tree x Entry a = ⊥
Defines tree x (Init y) a = (y ≡ x) × (a ≡ enter)
Defines tree x (Part t c) a = (assigned c ≡ Some x) × Says tree.body t c × (a ≡ at t)
Defines tree x (Final y) a = ⊥

abbrev pub Reads : Tree → List ℕ → Vertex → Point → Type 0
Reads tree x Entry a = ⊥
Reads tree x (Init y) a = ⊥
Reads tree x (Part t c) a = UsesIn c x × Says tree.body t c × (a ≡ at t)
Reads tree x (Final y) a = (y ≡ x) × Contains tree.finals x × (a ≡ exit)

abbrev pub IsFlowPath : Tree → List ℕ → Vertex → Vertex → Point → Point → List (Option Tag) → Type 0
IsFlowPath tree x from to a z marks = Defines tree x from a × Reads tree x to z × IsUndisturbed tree.body x a z marks

abbrev pub AvoidsCommon : Tree → Point → Point → List (Option Tag) → Type 0
AvoidsCommon tree a z marks = (w : Tag) → EnclosesBoth (skeleton tree.body) a z w → ¬ Contains marks (Some w)

abbrev pub IsIndependent : Tree → List ℕ → Vertex → Vertex → Type 0
IsIndependent tree x from to = (a z : Point) × (marks : List (Option Tag)) × IsFlowPath tree x from to a z marks × AvoidsCommon tree a z marks

abbrev pub IsCarried : Tree → List ℕ → Vertex → Vertex → Vertex → Type 0
IsCarried tree x w from to =
    (a z : Point) × (marks : List (Option Tag)) × (l : Tag) × (c : Content) × IsFlowPath tree x from to a z marks
    × (w ≡ Part l c) × Says tree.body l c × EnclosesBoth (skeleton tree.body) a z l × Contains marks (Some l)

abbrev pub HasFlow : Tree → List ℕ → Vertex → Vertex → Type 0
HasFlow tree x from to = IsIndependent tree x from to ⊎ ((w : Vertex) × IsCarried tree x w from to)

abbrev pub IsOrder : Tree → Vertex → Vertex → Vertex → Type 0
IsOrder tree u from to =
    (x : List ℕ) × (a b : Point) × Defines tree x from a × Defines tree x to b × HasFlow tree x from u × HasFlow tree x to u
    × StandsLeft (skeleton tree.body) a b × ¬ Parted (skeleton tree.body) a b

abbrev pub IsTop : Tree → Vertex → Type 0
IsTop tree Entry = ⊥
IsTop tree (Init x) = IsInitial tree x
IsTop tree (Part t c) = (s : Standing) × StandsAsIn tree.body t s × (s.content ≡ c) × (s.parent ≡ None)
IsTop tree (Final x) = Contains tree.finals x

abbrev pub StandsUnder : Tree → Tag → Bool → Vertex → Type 0
StandsUnder tree p label v = (t : Tag) × (s : Standing) × StandsAsIn tree.body t s × (v ≡ Part t s.content) × (s.parent ≡ Some (p, label))

abbrev pub IsControl : Tree → Bool → Vertex → Vertex → Type 0
IsControl tree label from to =
    ((from ≡ Entry) × (label ≡ true) × IsTop tree to)
    ⊎ ((p : Tag) × (c : Content) × (from ≡ Part p c) × Says tree.body p c × StandsUnder tree p label to)

abbrev pub IsVertexOf : Tree → Vertex → Type 0
IsVertexOf tree Entry = Unit {0}
IsVertexOf tree (Init x) = IsInitial tree x
IsVertexOf tree (Part t c) = Says tree.body t c
IsVertexOf tree (Final x) = Contains tree.finals x

abbrev pub IsEdgeBy : Tree → Kind → Vertex → Vertex → Type 0
IsEdgeBy tree (Control label) from to = IsControl tree label from to
IsEdgeBy tree (Independent x) from to = IsIndependent tree x from to
IsEdgeBy tree (Carried x w) from to = IsCarried tree x w from to
IsEdgeBy tree (Order u) from to = IsOrder tree u from to

abbrev pub IsEdgeOf : Tree → Edge → Type 0
IsEdgeOf tree e = IsEdgeBy tree e.kind e.from e.to

abbrev pub graph_of : Tree → Graph
graph_of tree = record { vertex = IsVertexOf tree; edge = IsEdgeOf tree }
