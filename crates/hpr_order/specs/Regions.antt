-- Where the vertices of a graph stand: the control edge into each (Horwitz, Prins and Reps 1989), and what
-- graphs have none.
--
-- HasBranch s label     == a part of this structure has a branch with this label
-- Allows from label to  == a control edge may go so: from Entry, labelled true, to a part, an Init or a Final
--                          vertex; from a loop, labelled true, to a part; from a conditional, with either
--                          label, to a part
-- Controls g from label v == a control edge of g with this label goes from one to the other
-- HasOneControl g v     == exactly one control edge of g goes into v
-- LeadsDown g a es b    == the edges, in order, are control edges of g that lead from a to b; with no edges a
--                          is b
-- IsUnderEntry g v      == control edges lead from Entry to v
-- IsPossible g v        == exactly one control edge goes into v, it may go so, and control edges lead from
--                          Entry to v
-- IsImpossible g v      == v is a vertex other than Entry that isn't possible
-- AllPossible g         == each vertex other than Entry is possible
-- HasTwoContents g t    == two vertices of g are the part t, with two contents
-- IsLeastOf cmp P x     == x has P, and nothing that comes before x in this order has it
-- IsRefusal g e         == the least tag that has two contents; where there is none, the least impossible
--                          vertex
-- control_link from label == the control edge with this label from the vertex with this number
-- IsRegionAt g at v r   == r is None at Entry, else the number and the label of the control edge into v,
--                          which has the number `at`
-- AreRegionsOf g rs     == no tag of g has two contents, no vertex is impossible, and rs has where each
--                          vertex stands
use Rattle.std.specs.Prelude.{◌≡◌, ◌≢◌, ℕ, Bool, true, Option, Some, None, List, [], ◌∷◌, slice_get, length}
use Rattle.std.specs.declared.cmp.Ordering.{Ordering}
use Rattle.std.specs.declared.cmp.Ordering.TheVariants.{Less}
use Rattle.hpr_terms.specs.declared.tag.Tag.{Tag}
use Rattle.hpr_syntax.specs.declared.rows.Content.{Content}
use Rattle.hpr_syntax.specs.declared.rows.Structure.{Structure}
use Rattle.hpr_syntax.specs.declared.rows.Structure.TheVariants.{Simple, Conditional, Loop}
use Rattle.hpr_syntax.specs.Rows.{structure_of}
use Rattle.hpr_graph.specs.declared.vertex.Vertex.{Vertex}
use Rattle.hpr_graph.specs.declared.vertex.Vertex.TheVariants.{Entry, Init, Part, Final}
use Rattle.hpr_graph.specs.declared.edge.Kind.{Kind}
use Rattle.hpr_graph.specs.declared.edge.Kind.TheVariants as kind
use Rattle.hpr_graph.specs.declared.edge.Edge.{Edge}
use Rattle.hpr_graph.specs.declared.link.LinkKind.TheVariants as link
use Rattle.hpr_graph.specs.declared.link.Link.{Link}
use Rattle.hpr_graph.specs.Graphs.{Graph}
use Rattle.hpr_graph.specs.Numbered.{Numbered, HasLink, graph_in}
use Rattle.hpr_graph.specs.Order.{tag_cmp, vertex_cmp}
use Rattle.hpr_graph.specs.Arrangements.{edge_into}
use Rattle.hpr_graph.specs.Answer.{IsPart}
use Rattle.hpr_order.specs.declared.tree.OrderError.{OrderError}
use Rattle.hpr_order.specs.declared.tree.OrderError.TheVariants.{TwoContents, Impossible, Memory}

abbrev pub HasBranch : Structure → Bool → Type 0
HasBranch Simple label = ⊥
HasBranch Conditional label = Unit {0}
HasBranch Loop label = label ≡ true

abbrev pub AllowsIn : Content → Bool → Type 0
AllowsIn c label = HasBranch (structure_of c) label

abbrev pub Allows : Vertex → Bool → Vertex → Type 0
Allows Entry label to = (label ≡ true) × (to ≢ Entry)
Allows (Init x) label to = ⊥
Allows (Part t c) label to = AllowsIn c label × IsPart to
Allows (Final x) label to = ⊥

abbrev pub Controls : Graph → Vertex → Bool → Vertex → Type 0
Controls g from label v = g.edge (edge_into from v (kind.Control label))

abbrev pub HasOneControl : Graph → Vertex → Type 0
HasOneControl g v =
    (from : Vertex) × (label : Bool) × Controls g from label v
    × ((other : Vertex) (mark : Bool) → Controls g other mark v → (other ≡ from) × (mark ≡ label))

abbrev pub IsControlKind : Kind → Type 0
IsControlKind k = (label : Bool) × (k ≡ kind.Control label)

abbrev pub LeadsDown : Graph → Vertex → List Edge → Vertex → Type 0
LeadsDown g a [] b = a ≡ b
LeadsDown g a (e ∷ es) b = g.edge e × IsControlKind e.kind × (e.from ≡ a) × LeadsDown g e.to es b

abbrev pub IsUnderEntry : Graph → Vertex → Type 0
IsUnderEntry g v = (es : List Edge) × LeadsDown g Entry es v

pub record IsPossible (g : Graph) (v : Vertex) : Type 0 where
  pub one : HasOneControl g v
  pub allowed : (from : Vertex) (label : Bool) → Controls g from label v → Allows from label v
  pub reached : IsUnderEntry g v

abbrev pub IsImpossible : Graph → Vertex → Type 0
IsImpossible g v = g.vertex v × (v ≢ Entry) × ¬ IsPossible g v

abbrev pub AllPossible : Graph → Type 0
AllPossible g = (v : Vertex) → g.vertex v → v ≢ Entry → IsPossible g v

abbrev pub HasTwoContents : Graph → Tag → Type 0
HasTwoContents g t = (c d : Content) × (c ≢ d) × g.vertex (Part t c) × g.vertex (Part t d)

abbrev pub IsLeastOf : {X : Type 0} → (X → X → Ordering) → (X → Type 0) → X → Type 0
IsLeastOf {X} cmp P x = P x × ((y : X) → P y → ¬ (cmp y x ≡ Less))

abbrev pub IsRefusal : Graph → OrderError → Type 0
IsRefusal g (TwoContents t) = IsLeastOf tag_cmp (HasTwoContents g) t
IsRefusal g (Impossible v) = ((t : Tag) → ¬ HasTwoContents g t) × IsLeastOf vertex_cmp (IsImpossible g) v
IsRefusal g Memory = Unit {0}

abbrev pub control_link : ℕ → Bool → Link
control_link from label = record { from = from; kind = link.Control label }

abbrev pub IsRegionAt : Numbered → ℕ → Vertex → Option (ℕ × Bool) → Type 0
IsRegionAt g at v None = v ≡ Entry
IsRegionAt g at v (Some (from, label)) = (v ≢ Entry) × HasLink g at (control_link from label)

pub record AreRegionsOf (g : Numbered) (rs : List (Option (ℕ × Bool))) : Type 0 where
  pub once : (t : Tag) → ¬ HasTwoContents (graph_in g) t
  pub possible : AllPossible (graph_in g)
  pub count : length rs ≡ length g.vertices
  pub parents : (at : ℕ) (v : Vertex) (r : Option (ℕ × Bool)) → slice_get g.vertices at ≡ Some v → slice_get rs at ≡ Some r → IsRegionAt g at v r
