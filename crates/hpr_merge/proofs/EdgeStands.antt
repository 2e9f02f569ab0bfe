-- Where the slice of a point isn't the same in the merged graph as on its side, an added edge stands.
use Rattle.std.proofs.Common.{◌≡◌, ℕ, zero, suc, ◌⊎◌, inl, inr, List, [], ◌∷◌, refl, sym, subst}
use Rattle.hpr_graph.specs.declared.vertex.Vertex.{Vertex}
use Rattle.hpr_graph.specs.declared.edge.Edge.{Edge}
use Rattle.hpr_graph.specs.Graphs.{Graph, IsWithin, Same}
use Rattle.hpr_graph.specs.Slices.{LeadsTo, ReachesOne, slice_of, slice_at}
use Rattle.hpr_graph.specs.Points.{IsAffected, changed, merged_all}
use Rattle.hpr_graph.specs.Conflicts.{graph_at, IsAdded, IsLeast, IsConflictAt, HasNoConflict}
use Rattle.hpr_graph.specs.Whole.{HasLoops, HasEnds, IsListed, IsWhole, IsFinite, AreAll}
use Rattle.hpr_closure.proofs.Decided.{Decided, both, reach_decided, slice_edge_decided, least_decided}
use Rattle.hpr_closure.proofs.FiniteGraphs.{finite_at, merged_finite}
use Rattle.hpr_closure.proofs.Reached.{Before, vertex_there}
use Rattle.hpr_closure.proofs.WholeSlices.{edge_inside, point_within, merged_whole, whole_at, variant_within}

-- where each edge of a slice that ends in a smaller one is the smaller one's, the two are the same
module _ (m g : Graph) (v : Vertex) (loops : HasLoops m) (closed : HasEnds g) (there : g.vertex v) (within : IsWithin (slice_at g v) (slice_at m v)) (all : (e : Edge) → (slice_at m v).edge e → (slice_at g v).vertex e.to → (slice_at g v).edge e) where
  from_own : (w : Vertex) (es : List Edge) → LeadsTo m w es v → (slice_at g v).vertex w
  from_own w [] is = subst (slice_at g v).vertex (sym is) (there, (v, [], refl, refl))
  from_own w (e ∷ es) (has, l, from, rest) =
      let r : ReachesOne m (λ s. s ≡ v) e.to = (v, es, refl, rest) in
      let (own, inside) = all e (has, edge_inside m loops (λ s. s ≡ v) e has l r) (from_own e.to es rest) in
      subst (slice_at g v).vertex from ((closed e own).1, inside.1)

  own_vertex : (w : Vertex) → ReachesOne m (λ s. s ≡ v) w → (slice_at g v).vertex w
  own_vertex w (s, es, is, leads) = from_own w es (subst (λ (z : Vertex). LeadsTo m w es z) is leads)

  pub same_when_own : Same (slice_at m v) (slice_at g v)
  same_when_own = (λ w. (λ x. own_vertex w x.1, within.0 w), λ e. (λ x. all e x (own_vertex e.to x.1.0), within.1 e))

-- in finite graphs either the two slices are the same, or a least added edge stands
module _ (m g : Graph) (v : Vertex) (loops : HasLoops m) (closed : HasEnds g) (listed : IsListed m) (fin : IsFinite g) (there : g.vertex v) (within : IsWithin (slice_at g v) (slice_at m v)) where
  own_decided : (w : Vertex) → Decided ((slice_at g v).vertex w)
  own_decided w = both (g.vertex w) (Before g v w) (vertex_there g fin w) (reach_decided g fin.edges v w)

  added_decided : (e : Edge) → Decided (IsAdded m g v e)
  added_decided e = elim (slice_edge_decided m listed v e) [
    | inr out ↦ inr (λ h. out h.0)
    | inl inside ↦ elim (slice_edge_decided g fin.edges v e) [
      | inl old ↦ inr (λ h. h.1 old)
      | inr new ↦ elim (own_decided e.to) [ inl to ↦ inl (inside, new, to) | inr far ↦ inr (λ h. far h.2) ]
    ]
  ]

  own_unless_added : ((e : Edge) → ¬ IsAdded m g v e) → (e : Edge) → (slice_at m v).edge e → (slice_at g v).vertex e.to → (slice_at g v).edge e
  own_unless_added none e inside to = elim (slice_edge_decided g fin.edges v e) [ inl old ↦ old | inr new ↦ absurd (none e (inside, new, to)) ]

  pub same_or_added : Same (slice_at m v) (slice_at g v) ⊎ ((e : Edge) × IsLeast (IsAdded m g v) e)
  same_or_added = elim (least_decided (IsAdded m g v) added_decided listed.0) [
    | inl none ↦ inl (same_when_own m g v loops closed there within (own_unless_added (λ e added. none e ((listed.1 e).1 added.0.0) added)))
    | inr (e, added, least) ↦ inr (e, (added, λ f f_added. least f ((listed.1 f).1 f_added.0.0) f_added))
  ]

-- a vertex of what the variants changed is one of the slice of one of them
abbrev pub OfOne : Graph → List Graph → Vertex → Type 0
OfOne base gs v = (i : ℕ) × (slice_of (graph_at gs i) (IsAffected (graph_at gs i) base)).vertex v

pub changed_by : (base : Graph) (gs : List Graph) (v : Vertex) → (changed base gs).vertex v → OfOne base gs v
changed_by base [] v h = absurd h
changed_by base (g ∷ []) v h = (zero, h)
changed_by base (g ∷ k ∷ gs) v (inl h) = (zero, h)
changed_by base (g ∷ k ∷ gs) v (inr h) = let more = changed_by base (k ∷ gs) v h in (suc more.0, more.1)

module _ (base : Graph) (gs : List Graph) (whole : IsWhole base) (fin : IsFinite base) (wholes : AreAll IsWhole gs) (fins : AreAll IsFinite gs) (i : ℕ) (v : Vertex) where
  abbrev M : Graph
  M = merged_all base gs

  abbrev Own : Graph
  Own = graph_at gs i

  abbrev Stands : Type 0
  Stands = (e : Edge) × IsLeast (IsAdded M Own v) e

  -- at an affected point of whole and finite graphs either the slice is kept, or the least added edge stands
  pub kept_or_added : IsAffected Own base v → Same (slice_at M v) (slice_at Own v) ⊎ Stands
  kept_or_added affected =
      let own = whole_at gs i wholes in
      same_or_added M Own v (merged_whole base gs whole wholes).loops own.ends (merged_finite base whole fin gs wholes fins).edges (finite_at gs i fins) affected.0
      (point_within Own own.loops (IsAffected Own base) M (variant_within base gs i) v affected)

  -- so at each conflict an edge stands
  pub edge_stands : IsConflictAt M Own base v → Stands
  edge_stands (affected, differs) = elim (kept_or_added affected) [ inl same ↦ absurd (differs same) | inr least ↦ least ]

  -- and where nothing is a conflict, each affected point keeps its slice
  pub kept_without : HasNoConflict base gs → IsAffected Own base v → Same (slice_at M v) (slice_at Own v)
  kept_without free affected = elim (kept_or_added affected) [
    | inl same ↦ same
    | inr (e, least) ↦ absurd (free i v e ((affected, λ same. least.0.1 ((same.1 e).0 least.0.0)), least))
  ]
