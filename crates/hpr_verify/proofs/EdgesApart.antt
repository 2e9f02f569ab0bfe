-- The first link that one of two graphs in order alone has is the least edge that one of them alone has.
use Rattle.std.proofs.Common.{◌≡◌, ℕ, ◌+◌, ◌<◌, ◌≤◌, ◌↔◌, inl, inr, List, Option, Some, None, length, Contains, sym, subst, arith}
use Rattle.std.specs.Ordering.{ordering_then}
use Rattle.std.specs.declared.cmp.Ordering.TheVariants.{Less}
use Rattle.std.proofs.lemmas.Bool.{cases_eq, cases_lt}
use Rattle.std.proofs.lemmas.Option.{slice_get_within}
use Rattle.hpr_graph.specs.declared.edge.Edge.{Edge}
use Rattle.hpr_graph.specs.declared.link.Link.{Link}
use Rattle.hpr_graph.specs.declared.vertex.Vertex.{Vertex}
use Rattle.hpr_graph.specs.contracts.link.LinkOrd.TheImpl.Laws.{total-law}
use Rattle.hpr_graph.specs.InOrder.{Ascends}
use Rattle.hpr_graph.specs.Numbered.{Numbered, HasEdge, HasLink, IsEdgeAt, IsLink, IsNumbered, graph_in, row_of}
use Rattle.hpr_graph.specs.Order.{vertex_cmp, kind_cmp, edge_cmp}
use Rattle.hpr_graph.proofs.EdgeList.{edge_link}
use Rattle.hpr_graph.proofs.InOrder.{first_less, vertices_agree}
use Rattle.hpr_graph.proofs.Laws.{one_edge}
use Rattle.hpr_graph.proofs.LinkOrder.{link_cmp, link_equal}
use Rattle.hpr_graph.proofs.PutInOrder as order
use Rattle.hpr_graph.proofs.VertexOrder.{edge_never}
use Rattle.hpr_verify.specs.declared.verdict.Holder.{Holder}
use Rattle.hpr_verify.specs.declared.verdict.Holder.TheVariants.{Offered, Merged}
use Rattle.hpr_verify.specs.Difference.{IsHeldBy, IsLeastApart, IsLeastHeld}
use Rattle.hpr_verify.specs.First.{IsFirstLinkApart}
use Rattle.hpr_verify.proofs.Differences.{none_held}
use Rattle.hpr_verify.proofs.LinkEdges.{link_less}

-- where two graphs that are in order have the same vertices, they have them by the same numbers
pub same_numbers : (g m : Numbered) → Ascends vertex_cmp g.vertices → Ascends vertex_cmp m.vertices → ((v : Vertex) → Contains g.vertices v ↔ Contains m.vertices v) → m.vertices ≡ g.vertices
same_numbers g m up up' same = vertices_agree (graph_in g) m.vertices g.vertices (up', λ v. ((same v).1, (same v).0)) (up, λ v. (λ h. h, λ h. h))

-- what is so of rows of vertices that were read
pub vertices_read : (xs ys vs us : List Vertex) (o : Option (Vertex × Holder)) → xs ≡ vs → ys ≡ us → IsLeastApart vertex_cmp (Contains xs) (Contains ys) o → IsLeastApart vertex_cmp (Contains vs) (Contains us) o
vertices_read xs ys vs us o is is' apart =
    subst (λ (zs : List Vertex). IsLeastApart vertex_cmp (Contains zs) (Contains us) o) is (subst (λ (zs : List Vertex). IsLeastApart vertex_cmp (Contains xs) (Contains zs) o) is' apart)

pub vertices_alike : (vs us : List Vertex) → us ≡ vs → (v : Vertex) → Contains vs v ↔ Contains us v
vertices_alike vs us same v = (subst (λ (zs : List Vertex). Contains zs v) (sym same), subst (λ (zs : List Vertex). Contains zs v) same)

module _ (g m : Numbered) (kg : IsNumbered g) (km : IsNumbered m) (same : m.vertices ≡ g.vertices) where
  on_g : (to : ℕ) (l : Link) (e : Edge) → IsEdgeAt m.vertices to l e → IsEdgeAt g.vertices to l e
  on_g to l e is = subst (λ (vs : List Vertex). IsEdgeAt vs to l e) same is

  on_m : (to : ℕ) (l : Link) (e : Edge) → IsEdgeAt g.vertices to l e → IsEdgeAt m.vertices to l e
  on_m to l e is = subst (λ (vs : List Vertex). IsEdgeAt vs to l e) (sym same) is

  -- a link that one of them has is an edge by the numbers of both
  pub is_link : (to : ℕ) (l : Link) (h : Holder) → IsHeldBy h (HasLink g to) (HasLink m to) l → IsLink g to l
  is_link to l Offered (has, lacks) = kg.links to l has
  is_link to l Merged (has, lacks) = let (e, is) = km.links to l has in (e, on_g to l e is)

  held_edge : (to : ℕ) (l : Link) (e : Edge) (h : Holder) → IsEdgeAt g.vertices to l e → IsHeldBy h (HasLink g to) (HasLink m to) l → IsHeldBy h (HasEdge g) (HasEdge m) e
  held_edge to l e Offered is (has, lacks) = ((to, l, has, is), λ k. lacks (edge_link m km.once to l e (on_m to l e is) k))
  held_edge to l e Merged is (has, lacks) = ((to, l, has, on_m to l e is), λ k. lacks (edge_link g kg.once to l e is k))

  held_link : (f : Edge) (h : Holder) → IsHeldBy h (HasEdge g) (HasEdge m) f → (t : ℕ) × (l : Link) × IsEdgeAt g.vertices t l f × IsHeldBy h (HasLink g t) (HasLink m t) l
  held_link f Offered ((t, l, has, is), lacks) = (t, l, is, (has, λ k. lacks (t, l, k, on_m t l f is)))
  held_link f Merged ((t, l, has, is), lacks) = (t, l, on_g t l f is, (has, λ k. lacks (t, l, k, on_g t l f is)))

  -- the rows of links into the same vertices, up to the first in which one of them has a link alone
  abbrev pub AgreeBelow : ℕ → Type 0
  AgreeBelow n = (t : ℕ) (k : Link) → t < n → HasLink g t k ↔ HasLink m t k

  pub agree_more : (to : ℕ) (xs ys : List Link) → row_of g to ≡ xs → row_of m to ≡ ys → IsLeastApart link_cmp (Contains xs) (Contains ys) None → AgreeBelow to → AgreeBelow (to + 1)
  agree_more to xs ys is is' none before t k low = elim (cases_eq t to) [
    | inl here ↦
        (let on_row : Contains (row_of g to) k ↔ Contains (row_of m to) k =
        subst (λ (zs : List Link). Contains zs k ↔ Contains (row_of m to) k) (sym is) (subst (λ (zs : List Link). Contains xs k ↔ Contains zs k) (sym is') (none k)) in
        subst (λ (n : ℕ). HasLink g n k ↔ HasLink m n k) (sym here) on_row)
    | inr other ↦ before t k (omega (arith, low, other))
  ]

  pub first_link : (to : ℕ) (xs ys : List Link) (l : Link) (h : Holder) → row_of g to ≡ xs → row_of m to ≡ ys → IsLeastApart link_cmp (Contains xs) (Contains ys) (Some (l, h)) → AgreeBelow to
      → IsFirstLinkApart link_cmp g m (Some (to, l, h))
  first_link to xs ys l h is is' least before = (
    subst (λ (zs : List Link). IsLeastHeld link_cmp (Contains zs) (HasLink m to) l h) (sym is)
        (subst (λ (zs : List Link). IsLeastHeld link_cmp (Contains xs) (Contains zs) l h) (sym is') least),
    before,
  )

  pub none_whole : (n : ℕ) → length g.vertices ≤ n → AgreeBelow n → IsFirstLinkApart link_cmp g m None
  none_whole n all before to l = (
    λ has. (let (e, is) = kg.links to l has in let w = slice_get_within g.vertices to e.to is.0 in (before to l (omega (arith, w, all))).0 has),
    λ has. (let (e, is) = km.links to l has in let w = slice_get_within g.vertices to e.to (on_g to l e is).0 in (before to l (omega (arith, w, all))).1 has),
  )

  -- where no link is one's alone, no edge is
  pub none_apart : IsFirstLinkApart link_cmp g m None → IsLeastApart edge_cmp (HasEdge g) (HasEdge m) None
  none_apart none e = (
    λ (to, l, has, is). (to, l, (none to l).0 has, on_m to l e is),
    λ (to, l, has, is). (to, l, (none to l).1 has, on_g to l e is),
  )

  module _ (up : Ascends vertex_cmp g.vertices) (to : ℕ) (l : Link) (e : Edge) (h : Holder) (is : IsEdgeAt g.vertices to l e) (least : IsLeastHeld link_cmp (HasLink g to) (HasLink m to) l h) where
    by_target : (t : ℕ) (k : Link) (f : Edge) → to < t → IsEdgeAt g.vertices t k f → edge_cmp e f ≡ Less
    by_target t k f less is' =
        first_less (vertex_cmp e.to f.to) (ordering_then (vertex_cmp e.from f.from) (kind_cmp e.kind f.kind)) (up to t e.to f.to less is.0 is'.0)

    -- nor does an edge into the same vertex come before it
    none_here : (k : Link) (f : Edge) (o : Holder) → IsEdgeAt g.vertices to k f → IsHeldBy o (HasLink g to) (HasLink m to) k → ¬ (edge_cmp f e ≡ Less)
    none_here k f o is' held less = elim (order.compared link_cmp total-law link_equal k l) [
      | inl tie ↦
          (let edge : f ≡ e = one_edge g.vertices to l f e (subst (λ (x : Link). IsEdgeAt g.vertices to x f) tie is') is in
          let itself : edge_cmp e e ≡ Less = subst (λ (x : Edge). edge_cmp x e ≡ Less) edge less in
          edge_never e e itself itself)
      | inr apart ↦ elim apart [
        | inl before ↦ least.1 o k held before
        | inr after ↦ edge_never e f (link_less g.vertices up to l k e f is is' after) less
      ]
    ]

    none_before : ((t : ℕ) (k : Link) → t < to → HasLink g t k ↔ HasLink m t k) → (o : Holder) (f : Edge) → IsHeldBy o (HasEdge g) (HasEdge m) f → ¬ (edge_cmp f e ≡ Less)
    none_before first o f held less =
        let (t, k, is', held') = held_link f o held in
        elim (cases_lt t to) [
          | inl before ↦ none_held (HasLink g t) (HasLink m t) k o (first t k before) held'
          | inr after ↦ elim (cases_lt to t) [
            | inl later ↦ edge_never e f (by_target t k f later is') less
            | inr here ↦
                (let same_target : t ≡ to = omega (arith, after, here) in
                none_here k f o (subst (λ (n : ℕ). IsEdgeAt g.vertices n k f) same_target is')
                (subst (λ (n : ℕ). IsHeldBy o (HasLink g n) (HasLink m n) k) same_target held') less)
          ]
        ]

  pub least_edge : Ascends vertex_cmp g.vertices → (to : ℕ) (l : Link) (e : Edge) (h : Holder) → IsFirstLinkApart link_cmp g m (Some (to, l, h)) → IsEdgeAt g.vertices to l e → IsLeastApart edge_cmp (HasEdge g) (HasEdge m) (Some (e, h))
  least_edge up to l e h (least, first) is = (held_edge to l e h is least.0, none_before up to l e h is least first)
