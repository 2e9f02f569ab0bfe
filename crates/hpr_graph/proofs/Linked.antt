-- Which links are edges.
use Rattle.std.proofs.Common.{◌≡◌, ℕ, ◌<◌, ◌↔◌, Bool, true, Some, IsSome, IsTrue, nat_lt, List, length, slice_get, refl, sym, ◌∙◌, subst}
use Rattle.std.proofs.lemmas.Bool.{ltb-true, lt-ltb}
use Rattle.std.proofs.lemmas.Option.{slice_get_within}
use Rattle.hpr_terms.proofs.Facts.{get_below}
use Rattle.hpr_graph.specs.declared.vertex.Vertex.{Vertex}
use Rattle.hpr_graph.specs.declared.edge.Kind.{Kind}
use Rattle.hpr_graph.specs.declared.edge.Kind.TheVariants as kind
use Rattle.hpr_graph.specs.declared.edge.Edge.{Edge}
use Rattle.hpr_graph.specs.declared.link.LinkKind.TheVariants.{Control, Independent, Carried, Order}
use Rattle.hpr_graph.specs.declared.link.Link.{Link}
use Rattle.hpr_graph.specs.Graphs.{name_of}
use Rattle.hpr_graph.specs.Numbered.{IsKindAt, IsEdgeAt}
use Rattle.hpr_graph.proofs.Lists.{some_of, is_some_at}

module _ (vs : List Vertex) (from : Vertex) where
  pub control_kind : (label : Bool) → IsTrue true ↔ ((k : Kind) × IsKindAt vs (Control label) from k)
  control_kind label = (λ t. (kind.Control label, refl), λ h. refl)

  pub independent_kind : IsSome (name_of from) ↔ ((k : Kind) × IsKindAt vs Independent from k)
  independent_kind = (
    λ h. (let (x, is) = some_of (name_of from) h in (kind.Independent x, (x, is, refl))),
    λ (k, (x, is, same)). is_some_at (name_of from) x is,
  )

  pub carried_kind : (w : ℕ) → IsSome (name_of from) → IsTrue (nat_lt w (length vs)) ↔ ((k : Kind) × IsKindAt vs (Carried w) from k)
  carried_kind w h = (
    λ t.
        (let (x, is) = some_of (name_of from) h in
        let (v, at) = get_below vs w (ltb-true w (length vs) t) in
        (kind.Carried x v, (x, v, is, at, refl))),
    λ (k, (x, v, is, at, same)). lt-ltb w (length vs) (slice_get_within vs w v at),
  )

  pub order_kind : (u : ℕ) → IsTrue (nat_lt u (length vs)) ↔ ((k : Kind) × IsKindAt vs (Order u) from k)
  order_kind u = (
    λ t. (let (v, at) = get_below vs u (ltb-true u (length vs) t) in (kind.Order v, (v, at, refl))),
    λ (k, (v, at, same)). lt-ltb u (length vs) (slice_get_within vs u v at),
  )

-- a link has an edge where its numbers are vertices and its kind has one
pub link_kind : (vs : List Vertex) (to : ℕ) (l : Link) (from : Vertex) → to < length vs → slice_get vs l.from ≡ Some from → ((k : Kind) × IsKindAt vs l.kind from k) ↔ ((e : Edge) × IsEdgeAt vs to l e)
link_kind vs to l from within at_from = (
  λ (k, is). (let (v, at) = get_below vs to within in (record { to = v; from = from; kind = k }, (at, at_from, is))),
  λ (e, (at, at_from', is)).
      (let both : Some e.from ≡ Some from = sym at_from' ∙ at_from in
      let same : e.from ≡ from = cc in
      (e.kind, subst (λ (v : Vertex). IsKindAt vs l.kind v e.kind) same is)),
)
