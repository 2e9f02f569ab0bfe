-- Graphs by numbers are finite, and so are slices and unions of finite graphs.
use Rattle.std.proofs.Common.{◌≡◌, ◌↔◌, ◌⊎◌, inl, inr, ℕ, List, [], ◌∷◌, ◌++◌, Contains, refl, sym, subst}
use Rattle.std.specs.List.{AllByRecursion}
use Rattle.std.proofs.lemmas.List.Elements.{Contains-append_left, Contains-append_right, Contains-append_cases}
use Rattle.hpr_graph.specs.declared.vertex.Vertex.{Vertex}
use Rattle.hpr_graph.specs.declared.vertex.Vertex.TheVariants.{Entry, Init, Part, Final}
use Rattle.hpr_graph.specs.declared.edge.Edge.{Edge}
use Rattle.hpr_graph.specs.Graphs.{Graph, HasVertices, union_of, nothing, restrict_to}
use Rattle.hpr_graph.specs.Numbered.{Numbered, IsNumbered, graph_in, graphs_in}
use Rattle.hpr_graph.specs.Slices.{LeadsTo, ReachesOne, IsReached, slice_of}
use Rattle.hpr_graph.specs.Points.{IsShared, IsInit, IsAffected, AllShare, IsPreservedBy, changed, merged_all}
use Rattle.hpr_graph.specs.Conflicts.{graph_at, IsConflictAt}
use Rattle.hpr_graph.specs.Direct.{IsDirectlyAffected}
use Rattle.hpr_graph.proofs.EdgeList.{edges_counted}
use Rattle.hpr_graph.specs.Whole.{IsWhole, AreAll, IsFinite}
use Rattle.hpr_closure.proofs.Decided.{Decided, both, inside_decided, reach_decided}
use Rattle.hpr_closure.proofs.Decisions.{denied, turned, some_decided, listed_by}
use Rattle.hpr_closure.proofs.Reached.{vertex_there, edge_there, affected_decided, shared_decided, conflict_reached, Before}
use Rattle.hpr_closure.proofs.WholeSlices.{at_number}
use Rattle.hpr_terms.proofs.Facts.{in_none}

pub finite_by_numbers : (g : Numbered) → IsNumbered g → IsFinite (graph_in g)
finite_by_numbers g k = record {
  edges = let (es, (once, all), count) = edges_counted g k in (es, all);
  vertices = (g.vertices, λ v. (λ h. h, λ h. h));
}

pub all_finite_by_numbers : (gs : List Numbered) → AllByRecursion IsNumbered gs → AreAll IsFinite (graphs_in gs)
all_finite_by_numbers [] all = tt
all_finite_by_numbers (g ∷ gs) all = (finite_by_numbers g all.0, all_finite_by_numbers gs all.1)

pub restrict_finite : (g : Graph) → IsFinite g → (P : Vertex → Type 0) → ((v : Vertex) → Decided (P v)) → IsFinite (restrict_to g P)
restrict_finite g fin P p = record {
  edges = listed_by (λ e. g.edge e × HasVertices P e) (λ e. both (g.edge e) (HasVertices P e) (edge_there g fin e) (inside_decided P p e)) fin.edges.0 (λ e h. (fin.edges.1 e).1 h.0);
  vertices = listed_by (λ v. g.vertex v × P v) (λ v. both (g.vertex v) (P v) (vertex_there g fin v) (p v)) fin.vertices.0 (λ v h. (fin.vertices.1 v).1 h.0);
}

-- whether some vertex with S is reached
module _ (g : Graph) (fin : IsFinite g) (S : Vertex → Type 0) (decided : (v : Vertex) → Decided (S v)) where
  abbrev Goes : Vertex → Vertex → Type 0
  Goes w s = S s × Before g s w

  goes_decided : (w s : Vertex) → Decided (Goes w s)
  goes_decided w s = both (S s) (Before g s w) (decided s) (reach_decided g fin.edges s w)

  last_target : (w : Vertex) (e : Edge) (es : List Edge) (s : Vertex) → LeadsTo g w (e ∷ es) s → (f : Edge) × g.edge f × (f.to ≡ s)
  last_target w e [] s (has, l, from, is) = (e, has, is)
  last_target w e (f ∷ es) s (has, l, from, rest) = last_target e.to f es s rest

  none_reached : (w : Vertex) → ¬ S w → ((e : Edge) → Contains fin.edges.0 e → ¬ Goes w e.to) → ¬ ReachesOne g S w
  none_reached w own none (s, [], one, is) = own (subst S (sym is) one)
  none_reached w own none (s, e ∷ es, one, leads) =
      let (f, has, is) = last_target w e es s leads in none f ((fin.edges.1 f).1 has) (subst (Goes w) (sym is) (one, (s, e ∷ es, refl, leads)))

  pub reaches_decided : (w : Vertex) → Decided (ReachesOne g S w)
  reaches_decided w = elim (decided w) [
    | inl one ↦ inl (w, [], one, refl)
    | inr own ↦ elim (some_decided (λ (e : Edge). Goes w e.to) (λ e. goes_decided w e.to) fin.edges.0) [
      | inl (e, listed, (one, (s, es, is, leads))) ↦ inl (e.to, es, one, subst (λ (z : Vertex). LeadsTo g w es z) is leads)
      | inr none ↦ inr (none_reached w own none)
    ]
  ]

  pub slice_finite : IsFinite (slice_of g S)
  slice_finite = restrict_finite g fin (ReachesOne g S) reaches_decided

union_lists : {X : Type 0} (P Q : X → Type 0) (xs ys : List X) → ((x : X) → Contains xs x ↔ P x) → ((x : X) → Contains ys x ↔ Q x) → (x : X) → Contains (xs ++ ys) x ↔ (P x ⊎ Q x)
union_lists P Q xs ys a b x = (
  λ h. elim (Contains-append_cases xs ys x h) [ inl l ↦ inl ((a x).0 l) | inr r ↦ inr ((b x).0 r) ],
  λ h. elim h [ inl p ↦ Contains-append_left xs ys x ((a x).1 p) | inr q ↦ Contains-append_right xs ys x ((b x).1 q) ],
)

pub union_finite : (g h : Graph) → IsFinite g → IsFinite h → IsFinite (union_of g h)
union_finite g h a b = record {
  edges = (a.edges.0 ++ b.edges.0, union_lists g.edge h.edge a.edges.0 b.edges.0 a.edges.1 b.edges.1);
  vertices = (a.vertices.0 ++ b.vertices.0, union_lists g.vertex h.vertex a.vertices.0 b.vertices.0 a.vertices.1 b.vertices.1);
}

init_decided : (v : Vertex) → Decided (IsInit v)
init_decided Entry = inr (λ h. (let e = h.1 in cc))
init_decided (Init x) = inl (x, refl)
init_decided (Part t c) = inr (λ h. (let e = h.1 in cc))
init_decided (Final x) = inr (λ h. (let e = h.1 in cc))

pub nothing_finite : IsFinite nothing
nothing_finite = record {
  edges = ([], λ e. (λ h. absurd (in_none e h), λ has. absurd has));
  vertices = ([], λ v. (λ h. absurd (in_none v h), λ has. absurd has));
}

pub finite_at : (gs : List Graph) (i : ℕ) → AreAll IsFinite gs → IsFinite (graph_at gs i)
finite_at gs i all = at_number IsFinite nothing_finite gs i all

-- the merged graph of finite graphs is finite
module _ (base : Graph) (whole : IsWhole base) (fin : IsFinite base) where
  all_share : (gs : List Graph) → AreAll IsWhole gs → AreAll IsFinite gs → (v : Vertex) → base.vertex v → Decided (AllShare base gs v)
  all_share [] wholes fins v there = inl tt
  all_share (g ∷ []) wholes fins v there = shared_decided base g fin fins.0 whole wholes.0 v there
  all_share (g ∷ h ∷ gs) wholes fins v there =
      both (IsShared base g v) (AllShare base (h ∷ gs) v) (shared_decided base g fin fins.0 whole wholes.0 v there) (all_share (h ∷ gs) wholes.1 fins.1 v there)

  own_finite : (g : Graph) → IsWhole g → IsFinite g → IsFinite (slice_of g (IsAffected g base))
  own_finite g w f = slice_finite g f (IsAffected g base) (affected_decided g base f fin w whole)

  changed_finite : (gs : List Graph) → AreAll IsWhole gs → AreAll IsFinite gs → IsFinite (changed base gs)
  changed_finite [] wholes fins = nothing_finite
  changed_finite (g ∷ []) wholes fins = own_finite g wholes.0 fins.0
  changed_finite (g ∷ h ∷ gs) wholes fins =
      union_finite (slice_of g (IsAffected g base)) (changed base (h ∷ gs)) (own_finite g wholes.0 fins.0) (changed_finite (h ∷ gs) wholes.1 fins.1)

  module _ (gs : List Graph) (wholes : AreAll IsWhole gs) (fins : AreAll IsFinite gs) where
    preserved_when : (v : Vertex) → base.vertex v → Decided (IsPreservedBy base gs v)
    preserved_when v there =
        turned ((¬ IsInit v) × AllShare base gs v) (IsPreservedBy base gs v) (λ (other, share). (other, there, share)) (λ (other, has, share). (other, share))
        (both (¬ IsInit v) (AllShare base gs v) (denied (IsInit v) (init_decided v)) (all_share gs wholes fins v there))

    preserved_decided : (v : Vertex) → Decided (IsPreservedBy base gs v)
    preserved_decided v = elim (vertex_there base fin v) [ inl there ↦ preserved_when v there | inr out ↦ inr (λ h. out h.1) ]

    pub merged_finite : IsFinite (merged_all base gs)
    merged_finite =
        union_finite (changed base gs) (slice_of base (IsPreservedBy base gs)) (changed_finite gs wholes fins)
        (slice_finite base fin (IsPreservedBy base gs) preserved_decided)

    -- the second law, of finite graphs
    pub conflict_is_reached : (i : ℕ) (v : Vertex) → IsConflictAt (merged_all base gs) (graph_at gs i) base v
        ↔ (IsAffected (graph_at gs i) base v × IsReached (merged_all base gs) (IsDirectlyAffected (merged_all base gs) (graph_at gs i)) v)
    conflict_is_reached i v = conflict_reached base gs whole wholes i v merged_finite (finite_at gs i fins)
