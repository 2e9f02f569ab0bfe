-- The links of a graph, before they are put into it.
--
-- link_kind k               == the kind of a flow edge as that of a link
-- target_of exit at u       == the number of the vertex that uses a name at the point u: that of the part,
--                              and at Exit the number `at`
-- new_link to from kind     == the link of this kind from one vertex to another
-- flow_link exit at source f == the flow edge f from this source
-- order_link user o         == the order edge between these definitions for the use with this number
-- parent_of place           == the control parent of the part, if there is one
-- link_under parent         == the control edge from this parent, with its label; for a top part from Entry
-- IsInitialAt tree inits x d v == the vertex with the number v is the initial definition of x, at Enter
-- FlowsFrom tree x d v to l == the link into the vertex with the number `to` is a flow edge for x from the
--                              source v at the point d
-- FlowsOf tree inits x to l == it is a flow edge for x
-- OrdersAt tree x u to l    == it is an order edge for the use of x at the point u
-- OrdersOf tree x to l      == it is an order edge for a use of x
use Rattle.std.specs.Prelude.{◌≡◌, ℕ, ◌+◌, true, Option, Some, None, List, [], slice_get, nat_lt, if◌then◌else◌}
use Rattle.hpr_syntax.specs.Tree.{Tree}
use Rattle.hpr_paths.specs.Spots.{defined_at}
use Rattle.hpr_paths.specs.Successors.{spots}
use Rattle.hpr_reach.specs.Reaches.{Reaches}
use Rattle.hpr_graph.specs.declared.link.LinkKind.{LinkKind}
use Rattle.hpr_graph.specs.declared.link.LinkKind.TheVariants as link
use Rattle.hpr_graph.specs.declared.link.Link.{Link}
use Rattle.hpr_build.specs.declared.flows.Flow.{Flow}
use Rattle.hpr_build.specs.declared.flows.FlowKind.{FlowKind}
use Rattle.hpr_build.specs.declared.flows.FlowKind.TheVariants as flow
use Rattle.hpr_build.specs.declared.orders.Ordered.{Ordered}
use Rattle.hpr_build.specs.declared.places.Parent.{Parent}
use Rattle.hpr_build.specs.declared.pushes.NewLink.{NewLink}
use Rattle.hpr_build.specs.Places.{Place, places}
use Rattle.hpr_build.specs.Orders.{IsBefore}
use Rattle.hpr_build.specs.Links.{first_init, IsSourceAt, IsTargetAt, IsFlowOf}

abbrev pub link_kind : FlowKind → LinkKind
link_kind flow.Independent = link.Independent
link_kind (flow.Carried w) = link.Carried w

abbrev pub target_of : ℕ → ℕ → ℕ → ℕ
target_of exit at u = if nat_lt u exit then u else at

abbrev pub new_link : ℕ → ℕ → LinkKind → NewLink
new_link to from kind = record { to = to; link = record { from = from; kind = kind } }

abbrev pub flow_link : ℕ → ℕ → ℕ → Flow → NewLink
flow_link exit at source f = new_link (target_of exit at f.to) source (link_kind f.kind)

abbrev pub order_link : ℕ → Ordered → NewLink
order_link user o = new_link o.right o.left (link.Order user)

abbrev pub parent_of : Option Place → Option Parent
parent_of None = None
parent_of (Some p) = p.parent

abbrev pub link_under : Option Parent → Link
link_under None = record { from = 0; kind = link.Control true }
link_under (Some p) = record { from = p.point; kind = link.Control p.label }

abbrev pub IsInitialAt : Tree → List (List ℕ) → List ℕ → ℕ → ℕ → Type 0
IsInitialAt tree inits x d v = (d ≡ 0) × ((k : ℕ) × (slice_get inits k ≡ Some x) × (v ≡ first_init tree + k))

abbrev pub FlowsFrom : Tree → List ℕ → ℕ → ℕ → ℕ → Link → Type 0
FlowsFrom tree x d v to l = (l.from ≡ v) × ((u : ℕ) × IsTargetAt tree x u to × IsFlowOf (spots tree) x d u l.kind)

abbrev pub FlowsOf : Tree → List (List ℕ) → List ℕ → ℕ → Link → Type 0
FlowsOf tree inits x to l = (d u : ℕ) × IsSourceAt tree inits x d l.from × IsTargetAt tree x u to × IsFlowOf (spots tree) x d u l.kind

abbrev pub OrdersAt : Tree → List ℕ → ℕ → ℕ → Link → Type 0
OrdersAt tree x u to l =
    (v : ℕ) × (l.kind ≡ link.Order v) × IsTargetAt tree x u v × (defined_at (spots tree) l.from ≡ Some x) × (defined_at (spots tree) to ≡ Some x)
    × IsBefore (places tree) l.from to × Reaches (spots tree) x [] l.from u × Reaches (spots tree) x [] to u

abbrev pub OrdersOf : Tree → List ℕ → ℕ → Link → Type 0
OrdersOf tree x to l = (u : ℕ) × OrdersAt tree x u to l
