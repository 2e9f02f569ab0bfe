-- The definitions that reach the uses of a name.
--
-- IsFlowKind kind           == the kind of a flow edge
-- HasFlowFrom links p       == one of the links is a flow edge from p
-- HasFlows tree inits g     == the flow edges in the graph are exactly those of the program
-- AreReached spots x points rows == for each of the points there is a row that marks what an undisturbed path
--                                   for x goes to
-- IsSourceBelow n points rows u p == p is one of the first n points, and its row marks u
-- AreReaching spots x definitions users rows == for each of the users there is a row with the definitions
--                                               from which an undisturbed path for x goes there, ascending
use Rattle.std.specs.Prelude.{◌≡◌, ℕ, ◌<◌, ◌↔◌, Bool, Some, List, [], Vec, Contains, length, slice_index_or}
use Rattle.std.specs.Global.{Global}
use Rattle.std.specs.List.{slice_get}
use Rattle.std.specs.List.Sorted.{IsStrictlyIncreasing}
use Rattle.hpr_syntax.specs.Tree.{Tree}
use Rattle.hpr_search.specs.Marks.{IsMarked}
use Rattle.hpr_paths.specs.Spots.{Spot}
use Rattle.hpr_reach.specs.Reaches.{Reaches}
use Rattle.hpr_graph.specs.declared.link.LinkKind.{LinkKind}
use Rattle.hpr_graph.specs.declared.link.LinkKind.TheVariants.{Control, Independent, Carried, Order}
use Rattle.hpr_graph.specs.declared.link.Link.{Link}
use Rattle.hpr_graph.specs.Numbered.{Numbered, HasLink}
use Rattle.hpr_build.specs.Links.{IsFlowLink}
use Rattle.hpr_build.specs.Variables.{points_at}

abbrev pub IsFlowKind : LinkKind → Type 0
IsFlowKind (Control label) = ⊥
IsFlowKind Independent = Unit {0}
IsFlowKind (Carried w) = Unit {0}
IsFlowKind (Order u) = ⊥

abbrev pub HasFlowFrom : List Link → ℕ → Type 0
HasFlowFrom links p = (l : Link) × Contains links l × IsFlowKind l.kind × (l.from ≡ p)

abbrev pub HasFlows : Tree → List (List ℕ) → Numbered → Type 0
HasFlows tree inits g = (to : ℕ) (l : Link) → IsFlowKind l.kind → HasLink g to l ↔ IsFlowLink tree inits to l

abbrev pub AreReaching : List Spot → List ℕ → List ℕ → List ℕ → List (Vec ℕ Global) → Type 0
AreReaching spots x definitions users rows =
    (k u : ℕ) → slice_get users k ≡ Some u → IsStrictlyIncreasing (points_at rows k)
    × ((p : ℕ) → Contains (points_at rows k) p ↔ (Contains definitions p × Reaches spots x [] p u))

abbrev pub AreReached : List Spot → List ℕ → List ℕ → List (List Bool) → Type 0
AreReached spots x points rows =
    (i : ℕ) → i < length points → (u : ℕ) → IsMarked (slice_index_or rows i []) u ↔ Reaches spots x [] (slice_index_or points i 0) u

abbrev pub IsSourceBelow : ℕ → List ℕ → List (List Bool) → ℕ → ℕ → Type 0
IsSourceBelow n points rows u p =
    (i : ℕ) × (i < n) × (slice_index_or points i 0 ≡ p) × IsMarked (slice_index_or rows i []) u
