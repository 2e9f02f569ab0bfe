-- The graph of a program by numbers: its vertices in their order, and its links.
--
-- part_vertex p               == the vertex of a part
-- name_vertex is_final x      == the vertex of a name: that of its value after the program, or that of its
--                                value before it
-- vertices_of tree inits      == the vertices in the order of their numbers: Entry, the parts in preorder,
--                                the names of `end`, and these names of initial definitions. So a part has
--                                the number of its point, and Entry that of Enter
-- exit_of tree                == the number of Exit's point, which is that of the first name of `end`
-- first_init tree             == the number of the first initial definition
-- IsSourceAt tree inits x d v == the vertex with the number v defines x at the point d: a part at its own, an
--                                initial definition at Enter
-- IsTargetAt tree x u v       == the vertex with the number v uses x at the point u: a part at its own, a
--                                name of `end` at Exit
-- IsFlowOf spots x d u kind   == a flow edge of this kind goes from the point d, which defines x, to the
--                                point u
-- IsUnder parent l            == the link comes from the control parent, with its label; for a top part from
--                                Entry
-- IsControlLink tree inits to l == the link into the vertex with the number `to` is a control edge
-- IsFlowLink tree inits to l  == it is a flow edge
-- IsOrderLink tree to l       == it is an order edge
-- IsLinkOf tree inits to l    == it is one of the three
-- HasMoreLinks tree inits n   == there are more than n such links
use Rattle.std.specs.Prelude.{◌≡◌, ℕ, ◌+◌, ◌<◌, ◌≤◌, Bool, true, false, ◌⊎◌, Option, Some, None, List, [], ◌∷◌, ◌++◌, map, length, slice_get}
use Rattle.hpr_syntax.specs.Tree.{Tree}
use Rattle.hpr_syntax.specs.Body.{part_count}
use Rattle.hpr_paths.specs.Spots.{Spot, defined_at, UsesAt}
use Rattle.hpr_paths.specs.Successors.{spots}
use Rattle.hpr_reach.specs.Reaches.{Reaches}
use Rattle.hpr_graph.specs.declared.vertex.Vertex.{Vertex}
use Rattle.hpr_graph.specs.declared.vertex.Vertex.TheVariants.{Entry, Init, Part, Final}
use Rattle.hpr_graph.specs.declared.link.LinkKind.{LinkKind}
use Rattle.hpr_graph.specs.declared.link.LinkKind.TheVariants as link
use Rattle.hpr_graph.specs.declared.link.Link.{Link}
use Rattle.hpr_graph.specs.Numbered.{Numbered, IsNumbered, HasLink, link_count}
use Rattle.hpr_build.specs.declared.places.Parent.{Parent}
use Rattle.hpr_build.specs.declared.flows.FlowKind.TheVariants as flow
use Rattle.hpr_build.specs.Flows.{IsFlowAt}
use Rattle.hpr_build.specs.Places.{Place, places, place_at, IsParted}

abbrev pub part_vertex : Place → Vertex
part_vertex p = Part p.tag p.content

abbrev pub name_vertex : Bool → List ℕ → Vertex
name_vertex true x = Final x
name_vertex false x = Init x

abbrev pub vertices_of : Tree → List (List ℕ) → List Vertex
vertices_of tree inits = Entry ∷ (map part_vertex (places tree) ++ (map Final tree.finals ++ map Init inits))

abbrev pub exit_of : Tree → ℕ
exit_of tree = part_count tree.body + 1

abbrev pub first_init : Tree → ℕ
first_init tree = exit_of tree + length tree.finals

abbrev pub IsSourceAt : Tree → List (List ℕ) → List ℕ → ℕ → ℕ → Type 0
IsSourceAt tree inits x d v =
    ((v ≡ d) × (defined_at (spots tree) d ≡ Some x)) ⊎ ((d ≡ 0) × ((k : ℕ) × (slice_get inits k ≡ Some x) × (v ≡ first_init tree + k)))

abbrev pub IsTargetAt : Tree → List ℕ → ℕ → ℕ → Type 0
IsTargetAt tree x u v =
    ((v ≡ u) × (u < exit_of tree) × UsesAt (spots tree) u x)
    ⊎ ((u ≡ exit_of tree) × ((k : ℕ) × (slice_get tree.finals k ≡ Some x) × (v ≡ exit_of tree + k)))

abbrev pub IsFlowOf : List Spot → List ℕ → ℕ → ℕ → LinkKind → Type 0
IsFlowOf spots x d u (link.Control label) = ⊥
IsFlowOf spots x d u link.Independent = IsFlowAt spots x d u flow.Independent
IsFlowOf spots x d u (link.Carried w) = IsFlowAt spots x d u (flow.Carried w)
IsFlowOf spots x d u (link.Order v) = ⊥

abbrev pub IsUnder : Option Parent → Link → Type 0
IsUnder None l = l ≡ record { from = 0; kind = link.Control true }
IsUnder (Some p) l = l ≡ record { from = p.point; kind = link.Control p.label }

abbrev pub IsControlLink : Tree → List (List ℕ) → ℕ → Link → Type 0
IsControlLink tree inits to l =
    ((p : Place) × (1 ≤ to) × (place_at (places tree) to ≡ Some p) × IsUnder p.parent l)
    ⊎ ((exit_of tree ≤ to) × (to < length (vertices_of tree inits)) × IsUnder None l)

abbrev pub IsFlowLink : Tree → List (List ℕ) → ℕ → Link → Type 0
IsFlowLink tree inits to l =
    (x : List ℕ) × (d u : ℕ) × IsSourceAt tree inits x d l.from × IsTargetAt tree x u to × IsFlowOf (spots tree) x d u l.kind

abbrev pub IsOrderLink : Tree → ℕ → Link → Type 0
IsOrderLink tree to l =
    (x : List ℕ) × (u v : ℕ) × (l.kind ≡ link.Order v) × IsTargetAt tree x u v
    × (defined_at (spots tree) l.from ≡ Some x) × (defined_at (spots tree) to ≡ Some x) × (l.from < to) × (¬ IsParted (places tree) l.from to)
    × Reaches (spots tree) x [] l.from u × Reaches (spots tree) x [] to u

abbrev pub IsLinkOf : Tree → List (List ℕ) → ℕ → Link → Type 0
IsLinkOf tree inits to l = IsControlLink tree inits to l ⊎ (IsFlowLink tree inits to l ⊎ IsOrderLink tree to l)

pub record HasMoreLinks (tree : Tree) (inits : List (List ℕ)) (n : ℕ) : Type 0 where
  pub g : Numbered
  pub numbered : IsNumbered g
  pub vertices : g.vertices ≡ vertices_of tree inits
  pub links : (to : ℕ) (l : Link) → HasLink g to l → IsLinkOf tree inits to l
  pub more : n < link_count g
