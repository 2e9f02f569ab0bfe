-- The places of vertices that ascend are their numbers.
use Rattle.std.proofs.Common.{◌≡◌, ℕ, zero, suc, ◌+◌, Some, List, [], ◌∷◌, slice_get, refl, ap, ap₂, ◌∙◌, arith}
use Rattle.std.specs.declared.cmp.Ordering.{Ordering}
use Rattle.std.specs.declared.cmp.Ordering.TheVariants.{Less, Equal}
use Rattle.std.specs.Ordering.{match_ordering}
use Rattle.serde_json.specs.Data.{Data}
use Rattle.hpr_graph.specs.declared.vertex.Vertex.{Vertex}
use Rattle.hpr_graph.specs.declared.edge.Kind.{Kind}
use Rattle.hpr_graph.specs.declared.edge.Edge.{Edge}
use Rattle.hpr_graph.specs.declared.link.LinkKind.{LinkKind}
use Rattle.hpr_graph.specs.declared.link.LinkKind.TheVariants.{Control, Independent, Carried, Order}
use Rattle.hpr_graph.specs.declared.link.Link.{Link}
use Rattle.hpr_graph.specs.Numbered.{IsKindAt, IsEdgeAt}
use Rattle.hpr_graph.specs.Order.{vertex_cmp}
use Rattle.hpr_graph.specs.InOrder.{Ascends, vertex_at, name_at, kind_of, edge_of}
use Rattle.hpr_graph.proofs.InOrder.{ties_itself, vertex_is}
use Rattle.hpr_report.specs.GraphJson.{control_data, flow_data, carried_data, order_data, place_of, kind_data, edge_data}

pub place_is : (vs : List Vertex) → Ascends vertex_cmp vs → (i : ℕ) (v : Vertex) → slice_get vs i ≡ Some v → place_of vs v ≡ i
place_is [] up i v at = absurd cc
place_is (w ∷ ws) up zero v at =
    let same : w ≡ v = cc in
    let ties : vertex_cmp w v ≡ Equal = ap (λ (x : Vertex). vertex_cmp x v) same ∙ ties_itself v in
    ap (λ (o : Ordering). match_ordering o (1 + place_of ws v) 0 (1 + place_of ws v)) ties
place_is (w ∷ ws) up (suc i) v at =
    let before : vertex_cmp w v ≡ Less = up 0 (suc i) w v (omega arith) refl at in
    let later : place_of ws v ≡ i = place_is ws (λ j k x y l a b. up (suc j) (suc k) x y (omega arith) a b) i v at in
    let next : 1 + place_of ws v ≡ suc i = omega arith in
    ap (λ (o : Ordering). match_ordering o (1 + place_of ws v) 0 (1 + place_of ws v)) before ∙ next

place_at : (vs : List Vertex) → Ascends vertex_cmp vs → (i : ℕ) (v : Vertex) → slice_get vs i ≡ Some v → place_of vs (vertex_at vs i) ≡ i
place_at vs up i v at = ap (place_of vs) (vertex_is vs i v at) ∙ place_is vs up i v at

-- the object of an edge by the numbers of its link
abbrev pub link_data : List Vertex → LinkKind → ℕ → ℕ → Data
link_data vs (Control label) from to = control_data label from to
link_data vs Independent from to = flow_data (name_at vs from) from to
link_data vs (Carried w) from to = carried_data w (name_at vs from) from to
link_data vs (Order u) from to = order_data u from to

kind_by_numbers : (vs : List Vertex) → Ascends vertex_cmp vs → (k : LinkKind) (from to : ℕ) (v : Vertex) (e : Kind) → IsKindAt vs k v e
    → kind_data vs (kind_of vs k from) from to ≡ link_data vs k from to
kind_by_numbers vs up (Control label) from to v e h = refl
kind_by_numbers vs up Independent from to v e h = refl
kind_by_numbers vs up (Carried w) from to v e (x, t, d, at, is) = ap (λ (n : ℕ). carried_data n (name_at vs from) from to) (place_at vs up w t at)
kind_by_numbers vs up (Order u) from to v e (t, at, is) = ap (λ (n : ℕ). order_data n from to) (place_at vs up u t at)

pub edge_by_numbers : (vs : List Vertex) → Ascends vertex_cmp vs → (to : ℕ) (l : Link) (k : LinkKind) → ((e : Edge) × IsEdgeAt vs to l e) → l.kind ≡ k
    → edge_data vs (edge_of vs to l) ≡ link_data vs k l.from to
edge_by_numbers vs up to l k (e, (to_at, from_at, kind_at)) is =
    ap₂ (λ (m n : ℕ). kind_data vs (kind_of vs l.kind l.from) m n) (place_at vs up l.from e.from from_at) (place_at vs up to e.to to_at)
    ∙ kind_by_numbers vs up l.kind l.from to e.from e.kind kind_at ∙ ap (λ (j : LinkKind). link_data vs j l.from to) is
