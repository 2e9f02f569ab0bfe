-- Edges and walks by the numbers of vertices.
use Rattle.std.proofs.Common.{◌≡◌, ℕ, Some, List, [], ◌∷◌, ◌++◌, slice_get, refl, sym, ap, ◌∙◌, subst}
use Rattle.hpr_search.specs.Rows.{numbers_at}
use Rattle.hpr_search.specs.Walks.{Walk}
use Rattle.hpr_graph.specs.declared.vertex.Vertex.{Vertex}
use Rattle.hpr_graph.specs.declared.edge.Kind.{Kind}
use Rattle.hpr_graph.specs.declared.edge.Edge.{Edge}
use Rattle.hpr_graph.specs.declared.link.LinkKind.{LinkKind}
use Rattle.hpr_graph.specs.declared.link.LinkKind.TheVariants.{Control, Independent, Carried, Order}
use Rattle.hpr_graph.specs.Graphs.{Graph}
use Rattle.hpr_graph.specs.Numbered.{Numbered, IsKindAt, IsNumbered, HasEdge, graph_in, row_of}
use Rattle.hpr_graph.specs.Slices.{Leads, LeadsTo, IsReached}
use Rattle.hpr_slice.specs.Neighbours.{AreTargets, Follows, HasSource}
use Rattle.hpr_impact.specs.Private.Ways.{IsEdgeFrom}

kind_leads : (vs : List Vertex) (k : LinkKind) (v : Vertex) (e : Kind) → IsKindAt vs k v e → Follows k → Leads e
kind_leads vs (Control label) v e is t = subst Leads (sym is) tt
kind_leads vs Independent v e (x, d, is) t = subst Leads (sym is) tt
kind_leads vs (Carried w) v e (x, y, d, at, is) t = subst Leads (sym is) tt
kind_leads vs (Order u) v e is t = absurd cc

leads_kind : (vs : List Vertex) (k : LinkKind) (v : Vertex) (e : Kind) → IsKindAt vs k v e → Leads e → Follows k
leads_kind vs (Control label) v e is t = refl
leads_kind vs Independent v e is t = refl
leads_kind vs (Carried w) v e is t = refl
leads_kind vs (Order u) v e (y, at, is) t = absurd (subst Leads is t)

leads_more : (g : Graph) (a : Vertex) (es : List Edge) (e : Edge) → LeadsTo g a es e.from → g.edge e → Leads e.kind → LeadsTo g a (es ++ e ∷ []) e.to
leads_more g a [] e w h k = (h, k, sym w, refl)
leads_more g a (f ∷ es) e w h k = (w.0, w.1, w.2, leads_more g f.to es e w.3 h k)

-- where an edge begins that is reached, it ends where is reached too
pub reached_more : (g : Graph) (S : Vertex → Type 0) (e : Edge) → IsReached g S e.from → g.edge e → Leads e.kind → IsReached g S e.to
reached_more g S e (s, es, start, leads) has kind = (s, es ++ e ∷ [], start, leads_more g s es e leads has kind)

module _ (g : Numbered) (k : IsNumbered g) where
  pub source_edge : (to from : ℕ) → HasSource (row_of g to) from → (e : Edge) × IsEdgeFrom g to from e
  source_edge to from (l, has, follows, is) =
      let (e, (to_at, from_at, kind)) = k.links to l has in (
        e,
        record {
          has = (to, l, has, (to_at, from_at, kind));
          leads = kind_leads g.vertices l.kind e.from e.kind kind follows;
          into = to_at;
          out = ap (slice_get g.vertices) (sym is) ∙ from_at;
        },
      )

  edge_source : (from : ℕ) (v : Vertex) (e : Edge) → HasEdge g e → Leads e.kind → e.from ≡ v → slice_get g.vertices from ≡ Some v → (to : ℕ) × (slice_get g.vertices to ≡ Some e.to) × HasSource (row_of g to) from
  edge_source from v e (to, l, has, (to_at, from_at, kind)) leads is at =
      let same : l.from ≡ from = k.once l.from from v (from_at ∙ ap Some is) at in
      (to, to_at, (l, has, leads_kind g.vertices l.kind e.from e.kind kind leads, same))

  pub walk_ahead : (rows : List (List ℕ)) → AreTargets g rows → (s : ℕ) (es : List Edge) (v w : Vertex) → LeadsTo (graph_in g) v es w → slice_get g.vertices s ≡ Some v
      → (p : ℕ) × (via : List ℕ) × (slice_get g.vertices p ≡ Some w) × Walk (numbers_at rows) s via p
  walk_ahead rows targets s [] v w leads at_s = (s, [], at_s ∙ ap Some leads, refl)
  walk_ahead rows targets s (e ∷ es) v w (has, leads, is, rest) at_s =
      let (c, at_c, source) = edge_source s v e has leads is at_s in
      let (p, via, at_p, walk) = walk_ahead rows targets c es e.to w rest at_c in
      (p, c ∷ via, at_p, ((targets.exact s c).1 source, walk))
