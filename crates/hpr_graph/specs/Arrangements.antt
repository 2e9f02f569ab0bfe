-- The arrangements of a graph: the programs that its parts and control edges allow. The 1989 paper orders the
-- parts of a block by another method.
--
-- Directs kind             == an edge of this kind between two parts has its source to the left: an
--                             independent flow edge or an order edge
-- edge_into v w k          == the edge from v into w of this kind
-- IsOuter v                == v is an Init or a Final vertex
-- IsArrangement g issued p == p is a program with these issued numbers; its parts and the control edges into
--                             them are those of g, its finals the names of g's Final vertices in ascending
--                             order; into each Init and each Final vertex of g goes exactly the control edge
--                             from Entry, labelled true; no edge of g that directs goes from right to left
-- IsEarlier rank p q       == at the first place where their preorders differ, p's part stands before q's in
--                             the rank
-- AreArrangements g rank issued ps == the list has exactly the arrangements, the earlier before the later,
--                                     each once
use Rattle.std.specs.Prelude.{◌≡◌, ℕ, Bool, true, ◌<◌, ◌↔◌, Some, List, ◌∷◌, ◌++◌, Contains, slice_get}
use Rattle.hpr_terms.specs.declared.tag.Tag.{Tag}
use Rattle.hpr_syntax.specs.declared.rows.Content.{Content}
use Rattle.hpr_syntax.specs.Issued.{Issued}
use Rattle.hpr_syntax.specs.Tree.{Tree}
use Rattle.hpr_syntax.specs.Shape.{IsProgram}
use Rattle.hpr_syntax.specs.Skeleton.{skeleton, at}
use Rattle.hpr_syntax.specs.Nests.{Says}
use Rattle.hpr_syntax.specs.Places.{StandsLeft}
use Rattle.hpr_graph.specs.declared.vertex.Vertex.{Vertex}
use Rattle.hpr_graph.specs.declared.vertex.Vertex.TheVariants.{Entry, Init, Part, Final}
use Rattle.hpr_graph.specs.declared.edge.Kind.{Kind}
use Rattle.hpr_graph.specs.declared.edge.Kind.TheVariants.{Control, Independent, Carried, Order}
use Rattle.hpr_graph.specs.declared.edge.Edge.{Edge}
use Rattle.hpr_graph.specs.Graphs.{Graph}
use Rattle.hpr_graph.specs.ProgramGraph.{IsControl}
use Rattle.hpr_graph.specs.Order.{name_cmp}
use Rattle.hpr_graph.specs.InOrder.{Ascends}
use Rattle.hpr_graph.specs.Rank.{parts_of, StandsBefore}

abbrev pub Directs : Kind → Type 0
Directs (Control label) = ⊥
Directs (Independent x) = Unit {0}
Directs (Carried x w) = ⊥
Directs (Order u) = Unit {0}

abbrev pub edge_into : Vertex → Vertex → Kind → Edge
edge_into from to k = record { to = to; from = from; kind = k }

abbrev pub IsOuter : Vertex → Type 0
IsOuter Entry = ⊥
IsOuter (Init x) = Unit {0}
IsOuter (Part t c) = ⊥
IsOuter (Final x) = Unit {0}

pub record IsArrangement (g : Graph) (issued : Issued) (p : Tree) : Type 0 where
  pub program : IsProgram p
  pub numbers : p.issued ≡ issued
  pub parts : (t : Tag) (c : Content) → Says p.body t c ↔ g.vertex (Part t c)
  pub control : (label : Bool) (from : Vertex) (t : Tag) (c : Content) → IsControl p label from (Part t c) ↔ g.edge (edge_into from (Part t c) (Control label))
  pub finals : (x : List ℕ) → Contains p.finals x ↔ g.vertex (Final x)
  pub ascending : Ascends name_cmp p.finals
  pub outer : (v from : Vertex) (label : Bool) → IsOuter v → g.vertex v → g.edge (edge_into from v (Control label)) ↔ ((from ≡ Entry) × (label ≡ true))
  pub directed : (s t : Tag) (c d : Content) (k : Kind) → g.edge (edge_into (Part s c) (Part t d) k) → Directs k → ¬ StandsLeft (skeleton p.body) (at t) (at s)

abbrev pub IsEarlier : List Vertex → Tree → Tree → Type 0
IsEarlier rank p q =
    (front ps qs : List Vertex) × (v w : Vertex) × (parts_of p ≡ front ++ v ∷ ps) × (parts_of q ≡ front ++ w ∷ qs) × StandsBefore rank v w

abbrev pub AreArrangements : Graph → List Vertex → Issued → List Tree → Type 0
AreArrangements g rank issued ps =
    ((p : Tree) → Contains ps p ↔ IsArrangement g issued p)
    × ((i j : ℕ) (p q : Tree) → i < j → slice_get ps i ≡ Some p → slice_get ps j ≡ Some q → IsEarlier rank p q)
