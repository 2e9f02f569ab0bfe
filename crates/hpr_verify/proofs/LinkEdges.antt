-- Among the links into one vertex, the order of links is that of their edges, where the vertices ascend.
use Rattle.std.proofs.Common.{◌≡◌, ℕ, ◌⊎◌, inl, inr, List, Some, slice_get, refl, sym, ap, ap₂, ◌∙◌, subst}
use Rattle.std.specs.Cmp.{tied_itself}
use Rattle.std.specs.Cmp.Lexicographic.{nat_list_cmp_total}
use Rattle.std.specs.FinMap.{nat_cmp-IsAntisymmetric}
use Rattle.std.specs.Ordering.{nat_cmp, ordering_then}
use Rattle.std.specs.declared.cmp.Ordering.{Ordering}
use Rattle.std.specs.declared.cmp.Ordering.TheVariants.{Less, Equal, Greater}
use Rattle.std.proofs.lemmas.Cmp.{ranked}
use Rattle.hpr_graph.specs.declared.vertex.Vertex.{Vertex}
use Rattle.hpr_graph.specs.declared.edge.Kind.{Kind}
use Rattle.hpr_graph.specs.declared.edge.Kind.TheVariants as kind
use Rattle.hpr_graph.specs.declared.edge.Edge.{Edge}
use Rattle.hpr_graph.specs.declared.link.LinkKind.{LinkKind}
use Rattle.hpr_graph.specs.declared.link.LinkKind.TheVariants.{Control, Independent, Carried, Order}
use Rattle.hpr_graph.specs.declared.link.Link.{Link}
use Rattle.hpr_graph.specs.contracts.link.LinkKindOrd.TheImpl as kinds
use Rattle.hpr_graph.specs.Numbered.{IsKindAt, IsEdgeAt}
use Rattle.hpr_graph.specs.Order.{vertex_cmp, kind_cmp, edge_cmp}
use Rattle.hpr_graph.specs.InOrder.{Ascends}
use Rattle.hpr_graph.proofs.InOrder.{first_less}
use Rattle.hpr_graph.proofs.LinkOrder.{link_cmp}
use Rattle.hpr_graph.proofs.Lists.{some_inj}
use Rattle.hpr_graph.proofs.VertexOrder.{vertex_itself}

then_less : (a b : Ordering) → ordering_then a b ≡ Less → (a ≡ Less) ⊎ ((a ≡ Equal) × (b ≡ Less))
then_less Less b e = inl refl
then_less Equal b e = inr (refl, e)
then_less Greater b e = absurd cc

then_second : (a b : Ordering) → a ≡ Equal → b ≡ Less → ordering_then a b ≡ Less
then_second a b e l = ap (λ (o : Ordering). ordering_then o b) e ∙ l

module _ (vs : List Vertex) (up : Ascends vertex_cmp vs) where
  place_less : (i j : ℕ) (v w : Vertex) → nat_cmp i j ≡ Less → slice_get vs i ≡ Some v → slice_get vs j ≡ Some w → vertex_cmp v w ≡ Less
  place_less i j v w e a b = up i j v w (ranked i j Less (sym e)) a b

  by_kinds : (e f e' f' : Kind) → e ≡ e' → f ≡ f' → kind_cmp e' f' ≡ Less → kind_cmp e f ≡ Less
  by_kinds e f e' f' a b less = ap₂ kind_cmp a b ∙ less

  kind_less : (k m : LinkKind) (v : Vertex) (e f : Kind) → IsKindAt vs k v e → IsKindAt vs m v f → (kinds.ghosts).cmp k m ≡ Less → kind_cmp e f ≡ Less
  kind_less (Control a) (Control b) v e f h i less = by_kinds e f (kind.Control a) (kind.Control b) h i less
  kind_less (Control a) Independent v e f h (x, d, is) less = by_kinds e f (kind.Control a) (kind.Independent x) h is refl
  kind_less (Control a) (Carried w) v e f h (x, t, d, at, is) less = by_kinds e f (kind.Control a) (kind.Carried x t) h is refl
  kind_less (Control a) (Order u) v e f h (t, at, is) less = by_kinds e f (kind.Control a) (kind.Order t) h is refl
  kind_less Independent (Control b) v e f h i less = absurd cc
  kind_less Independent Independent v e f h i less = absurd cc
  kind_less Independent (Carried w) v e f (x, d, is) (y, t, c, at, js) less = by_kinds e f (kind.Independent x) (kind.Carried y t) is js refl
  kind_less Independent (Order u) v e f (x, d, is) (t, at, js) less = by_kinds e f (kind.Independent x) (kind.Order t) is js refl
  kind_less (Carried w) (Control b) v e f h i less = absurd cc
  kind_less (Carried w) Independent v e f h i less = absurd cc
  kind_less (Carried w) (Carried w') v e f (x, t, d, at, is) (y, s, c, at', js) less =
      let same : x ≡ y = some_inj x y (sym d ∙ c) in
      by_kinds e f (kind.Carried y t) (kind.Carried y s) (is ∙ ap (λ (z : List ℕ). kind.Carried z t) same) js
      (then_second _ (vertex_cmp t s) (tied_itself nat_list_cmp_total y) (place_less w w' t s less at at'))
  kind_less (Carried w) (Order u) v e f (x, t, d, at, is) (s, at', js) less = by_kinds e f (kind.Carried x t) (kind.Order s) is js refl
  kind_less (Order u) (Control b) v e f h i less = absurd cc
  kind_less (Order u) Independent v e f h i less = absurd cc
  kind_less (Order u) (Carried w) v e f h i less = absurd cc
  kind_less (Order u) (Order u') v e f (t, at, is) (s, at', js) less =
      by_kinds e f (kind.Order t) (kind.Order s) is js (place_less u u' t s less at at')

  same_vertices : (i : ℕ) (v w : Vertex) → slice_get vs i ≡ Some v → slice_get vs i ≡ Some w → v ≡ w
  same_vertices i v w a b = some_inj v w (sym a ∙ b)

  pub link_less : (to : ℕ) (l m : Link) (e f : Edge) → IsEdgeAt vs to l e → IsEdgeAt vs to m f → link_cmp l m ≡ Less → edge_cmp e f ≡ Less
  link_less to l m e f h i less =
      let to_same : e.to ≡ f.to = same_vertices to e.to f.to h.0 i.0 in
      let ties : vertex_cmp e.to f.to ≡ Equal = ap (λ (v : Vertex). vertex_cmp v f.to) to_same ∙ vertex_itself f.to in
      then_second (vertex_cmp e.to f.to) (ordering_then (vertex_cmp e.from f.from) (kind_cmp e.kind f.kind)) ties
      (elim (then_less (nat_cmp l.from m.from) ((kinds.ghosts).cmp l.kind m.kind) less) [
        | inl before ↦ first_less (vertex_cmp e.from f.from) (kind_cmp e.kind f.kind) (place_less l.from m.from e.from f.from before h.1 i.1)
        | inr (tie, after) ↦
            (let number : l.from ≡ m.from = nat_cmp-IsAntisymmetric l.from m.from tie in
            let from_same : e.from ≡ f.from = same_vertices m.from e.from f.from (subst (λ (n : ℕ). slice_get vs n ≡ Some e.from) number h.1) i.1 in
            then_second (vertex_cmp e.from f.from) (kind_cmp e.kind f.kind)
            (ap (λ (v : Vertex). vertex_cmp v f.from) from_same ∙ vertex_itself f.from)
            (kind_less l.kind m.kind f.from e.kind f.kind (subst (λ (v : Vertex). IsKindAt vs l.kind v e.kind) from_same h.2) i.2 after))
      ])
