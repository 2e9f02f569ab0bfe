-- Walks by numbers are lists of control and flow edges.
use Rattle.std.proofs.Common.{◌≡◌, ℕ, Some, List, [], ◌∷◌, ◌++◌, slice_get, refl, sym, ap, ◌∙◌, subst}
use Rattle.hpr_search.specs.Walks.{Walk}
use Rattle.hpr_search.proofs.Turns.{walk_more}
use Rattle.hpr_graph.specs.declared.vertex.Vertex.{Vertex}
use Rattle.hpr_graph.specs.declared.edge.Kind.{Kind}
use Rattle.hpr_graph.specs.declared.edge.Edge.{Edge}
use Rattle.hpr_graph.specs.declared.link.LinkKind.{LinkKind}
use Rattle.hpr_graph.specs.declared.link.LinkKind.TheVariants.{Control, Independent, Carried, Order}
use Rattle.hpr_graph.specs.Graphs.{Graph}
use Rattle.hpr_graph.specs.Numbered.{Numbered, IsKindAt, IsNumbered, HasEdge, graph_in, row_of}
use Rattle.hpr_graph.specs.Slices.{Leads, LeadsTo}
use Rattle.hpr_search.specs.Rows.{numbers_at}
use Rattle.hpr_slice.specs.Neighbours.{Follows, HasSource, AreTargets, sources_at}
use Rattle.hpr_graph.proofs.Lists.{some_inj}
use Rattle.hpr_slice.proofs.SourceRows.{sources_exact}

kind_leads : (vs : List Vertex) (k : LinkKind) (v : Vertex) (e : Kind) → IsKindAt vs k v e → Follows k → Leads e
kind_leads vs (Control label) v e is t = subst Leads (sym is) tt
kind_leads vs Independent v e (x, d, is) t = subst Leads (sym is) tt
kind_leads vs (Carried w) v e (x, y, d, at, is) t = subst Leads (sym is) tt
kind_leads vs (Order u) v e is t = absurd cc

leads_kind : (vs : List Vertex) (k : LinkKind) (v : Vertex) (e : Kind) → IsKindAt vs k v e → Leads e → Follows k
leads_kind vs (Control label) v e is t = refl
leads_kind vs Independent v e is t = refl
leads_kind vs (Carried w) v e is t = refl
leads_kind vs (Order u) v e (y, at, is) t = absurd (subst Leads is t)

leads_more : (g : Graph) (a : Vertex) (es : List Edge) (e : Edge) → LeadsTo g a es e.from → g.edge e → Leads e.kind → LeadsTo g a (es ++ e ∷ []) e.to
leads_more g a [] e w h k = (h, k, sym w, refl)
leads_more g a (f ∷ es) e w h k = (w.0, w.1, w.2, leads_more g f.to es e w.3 h k)

module _ (g : Numbered) (k : IsNumbered g) where
  -- a source is where an edge comes from
  pub edge_of : (to from : ℕ) → HasSource (row_of g to) from → (e : Edge) × HasEdge g e × Leads e.kind × (slice_get g.vertices to ≡ Some e.to) × (slice_get g.vertices from ≡ Some e.from)
  edge_of to from (l, has, follows, is) =
      let (e, (to_at, from_at, kind)) = k.links to l has in
      (e, (to, l, has, (to_at, from_at, kind)), kind_leads g.vertices l.kind e.from e.kind kind follows, to_at, ap (slice_get g.vertices) (sym is) ∙ from_at)

  -- and where an edge comes from is a source
  pub of_edge : (from : ℕ) (v : Vertex) (e : Edge) → HasEdge g e → Leads e.kind → e.from ≡ v → slice_get g.vertices from ≡ Some v → (to : ℕ) × (slice_get g.vertices to ≡ Some e.to) × HasSource (row_of g to) from
  of_edge from v e (to, l, has, (to_at, from_at, kind)) leads is at =
      let same : l.from ≡ from = k.once l.from from v (from_at ∙ ap Some is) at in
      (to, to_at, (l, has, leads_kind g.vertices l.kind e.from e.kind kind leads, same))

  pub leads_back : (s p : ℕ) (via : List ℕ) (v w : Vertex) → Walk (sources_at g) s via p → slice_get g.vertices s ≡ Some v → slice_get g.vertices p ≡ Some w → (es : List Edge) × LeadsTo (graph_in g) w es v
  leads_back s p [] v w walk at_s at_p = ([], some_inj w v (sym at_p ∙ ap (slice_get g.vertices) (sym walk) ∙ at_s))
  leads_back s p (c ∷ via) v w walk at_s at_p =
      let (e, has, leads, at_to, at_c) = edge_of s c ((sources_exact (row_of g s) c).0 walk.0) in
      let is : e.to ≡ v = some_inj e.to v (sym at_to ∙ at_s) in
      let (es, before) = leads_back c p via e.from w walk.1 at_c at_p in
      (es ++ e ∷ [], subst (λ (x : Vertex). LeadsTo (graph_in g) w (es ++ e ∷ []) x) is (leads_more (graph_in g) w es e before has leads))

  pub walk_back : (p : ℕ) (es : List Edge) (v w : Vertex) → LeadsTo (graph_in g) w es v → slice_get g.vertices p ≡ Some w → (s : ℕ) × (via : List ℕ) × (slice_get g.vertices s ≡ Some v) × Walk (sources_at g) s via p
  walk_back p [] v w leads at_p = (p, [], at_p ∙ ap Some leads, refl)
  walk_back p (e ∷ es) v w (has, leads, is, rest) at_p =
      let (c, at_c, source) = of_edge p w e has leads is at_p in
      let (s, via, at_s, walk) = walk_back c es v e.to rest at_c in
      (s, via ++ p ∷ [], at_s, walk_more (sources_at g) s via c p walk ((sources_exact (row_of g c) p).1 source))

  module _ (rows : List (List ℕ)) (targets : AreTargets g rows) where
    pub leads_ahead : (s p : ℕ) (via : List ℕ) (v w : Vertex) → Walk (numbers_at rows) s via p → slice_get g.vertices s ≡ Some v → slice_get g.vertices p ≡ Some w → (es : List Edge) × LeadsTo (graph_in g) v es w
    leads_ahead s p [] v w walk at_s at_p = ([], some_inj v w (sym at_s ∙ ap (slice_get g.vertices) walk ∙ at_p))
    leads_ahead s p (c ∷ via) v w walk at_s at_p =
        let (e, has, leads, at_c, at_from) = edge_of c s ((targets.exact s c).0 walk.0) in
        let (es, after) = leads_ahead c p via e.to w walk.1 at_c at_p in
        (e ∷ es, (has, leads, some_inj e.from v (sym at_from ∙ at_s), after))

    pub walk_ahead : (s : ℕ) (es : List Edge) (v w : Vertex) → LeadsTo (graph_in g) v es w → slice_get g.vertices s ≡ Some v → (p : ℕ) × (via : List ℕ) × (slice_get g.vertices p ≡ Some w) × Walk (numbers_at rows) s via p
    walk_ahead s [] v w leads at_s = (s, [], at_s ∙ ap Some leads, refl)
    walk_ahead s (e ∷ es) v w (has, leads, is, rest) at_s =
        let (c, at_c, source) = of_edge s v e has leads is at_s in
        let (p, via, at_p, walk) = walk_ahead c es e.to w rest at_c in
        (p, c ∷ via, at_p, ((targets.exact s c).1 source, walk))
