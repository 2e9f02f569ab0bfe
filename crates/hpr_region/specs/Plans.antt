-- What a search of the arrangements of a graph knows from its start, and where it stands.
--
-- Items are the parts of the graph by their places in the order of the rank.
--
-- size_of plan             == how many items there are
-- can_by choices placed k  == whether the item k may stand next behind the placed ones, by the tables;
--                             nothing may where there are none
-- may_follow plan          == the same test by the plan's tables
-- clash_in plan placed k   == whether the item k clashes with the placed ones
-- vertex_by g n            == the vertex with this number, Entry where there is none
-- vertex_at g plan k       == the vertex of the item k
-- vertices_at g plan items == the vertices of these items
-- number_at plan k         == the number of the vertex of the item k
-- numbers_at plan items    == the numbers of the vertices of these items
-- AreListed g rank issued plan == the whole lists of items, in lexicographic order, are the preorders of the
--                                 arrangements, in the order of the rank
-- SomeStands g plan        == there are a whole list, and issued numbers that the tags of all parts allow
-- IsPlanOf g rank plan     == the plan is that of the graph and the rank: what its tests and its numbers say
--                             of arrangements and clashes
-- State                    == the plan, and the items placed so far
-- placed_in s              == the numbers of the vertices placed so far
-- IsReady s n              == n is the number of the vertex of an item that may stand next
-- BeginsWith g front p     == the preorder of p begins with the vertices with these numbers
-- IsBegun g front          == some arrangement begins so, with any issued numbers that its tags allow
use Rattle.std.specs.Prelude.{◌≡◌, ℕ, Bool, true, false, Option, Some, None, List, ◌++◌, map, length, get_or, slice_get}
use Rattle.hpr_syntax.specs.Issued.{Issued}
use Rattle.hpr_syntax.specs.Proper.{IsProperIssued}
use Rattle.hpr_syntax.specs.Tree.{Tree}
use Rattle.hpr_graph.specs.declared.vertex.Vertex.{Vertex}
use Rattle.hpr_graph.specs.declared.vertex.Vertex.TheVariants.{Entry}
use Rattle.hpr_graph.specs.Numbered.{Numbered, IsNumbered, graph_in}
use Rattle.hpr_graph.specs.Rank.{parts_of}
use Rattle.hpr_graph.specs.Arrangements.{IsArrangement, AreArrangements}
use Rattle.hpr_graph.specs.Clashes.{Clashes}
use Rattle.hpr_forest.specs.declared.blocks.Blocks.{Blocks}
use Rattle.hpr_forest.specs.Choices.{IsWhole, IsBacktrackFree}
use Rattle.hpr_forest.specs.Lists.{LexLess, IsListOf}
use Rattle.hpr_forest.specs.Remaining.{can_of}
use Rattle.hpr_order.specs.Arranging.{AreIssued, IsPreorderOf}
use Rattle.hpr_order.specs.Numbers.{ArePartsOf, AreRanked}
use Rattle.hpr_region.specs.declared.plan.Plan.{Plan}
use Rattle.hpr_region.specs.Flows.{clash}

abbrev pub size_of : Plan → ℕ
size_of plan = length plan.numbers.items

abbrev pub can_by : Option Blocks → List ℕ → ℕ → Bool
can_by None placed k = false
can_by (Some b) placed k = can_of b placed k

abbrev pub may_follow : Plan → List ℕ → ℕ → Bool
may_follow plan = can_by plan.choices

abbrev pub clash_in : Plan → List ℕ → ℕ → Bool
clash_in plan = clash plan.flows

abbrev pub vertex_by : Numbered → Option ℕ → Vertex
vertex_by g None = Entry
vertex_by g (Some n) = get_or g.vertices n Entry

abbrev pub vertex_at : Numbered → Plan → ℕ → Vertex
vertex_at g plan k = vertex_by g (slice_get plan.numbers.items k)

abbrev pub vertices_at : Numbered → Plan → List ℕ → List Vertex
vertices_at g plan items = map (vertex_at g plan) items

abbrev pub number_at : Plan → ℕ → ℕ
number_at plan k = get_or plan.numbers.items k 0

abbrev pub numbers_at : Plan → List ℕ → List ℕ
numbers_at plan items = map (number_at plan) items

abbrev pub AreListed : Numbered → List Vertex → Issued → Plan → Type 0
AreListed g rank issued plan =
    (orders : List (List ℕ)) × (ps : List Tree) × IsListOf LexLess (IsWhole (may_follow plan) (size_of plan)) orders
    × AreArrangements (graph_in g) rank issued ps × (map parts_of ps ≡ map (vertices_at g plan) orders)

abbrev pub SomeStands : Numbered → Plan → Type 0
SomeStands g plan =
    ((l : List ℕ) × IsWhole (may_follow plan) (size_of plan) l) × ((issued : Issued) × IsProperIssued issued × AreIssued (graph_in g) issued)

pub record IsPlanOf (g : Numbered) (rank : List Vertex) (plan : Plan) : Type 0 where
  pub numbered : IsNumbered g
  pub parts : ArePartsOf g plan.numbers.items
  pub ranked : AreRanked g rank plan.numbers.items
  pub free : IsBacktrackFree (may_follow plan) (size_of plan)
  pub listed : (issued : Issued) → IsProperIssued issued → AreIssued (graph_in g) issued → AreListed g rank issued plan
  pub some : (placed : List ℕ) (k : ℕ) → may_follow plan placed k ≡ true → SomeStands g plan
  pub clashes : (placed : List ℕ) (k : ℕ) → clash_in plan placed k ≡ true → Clashes (graph_in g) (vertices_at g plan placed) (vertex_at g plan k)
  pub no_clash : (placed : List ℕ) (k : ℕ) → clash_in plan placed k ≡ false → ¬ Clashes (graph_in g) (vertices_at g plan placed) (vertex_at g plan k)

pub record State : Type 0 where
  pub plan : Plan
  pub placed : List ℕ

abbrev pub placed_in : State → List ℕ
placed_in s = numbers_at s.plan s.placed

abbrev pub IsReady : State → ℕ → Type 0
IsReady s n = (k : ℕ) × (slice_get s.plan.numbers.items k ≡ Some n) × (may_follow s.plan s.placed k ≡ true)

abbrev pub BeginsWith : Numbered → List ℕ → Tree → Type 0
BeginsWith g front p = (rest : List ℕ) × IsPreorderOf g (front ++ rest) p

abbrev pub IsBegun : Numbered → List ℕ → Type 0
IsBegun g front = (issued : Issued) × (p : Tree) × IsArrangement (graph_in g) issued p × BeginsWith g front p
