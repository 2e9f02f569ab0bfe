-- A graph with the vertices of another too.
use Rattle.std.proofs.Common.{◌≡◌, ℕ, ◌↔◌, ◌⊎◌, inl, inr, List, [], ◌∷◌, Contains, sym, subst}
use Rattle.hpr_graph.specs.declared.vertex.Vertex.{Vertex}
use Rattle.hpr_graph.specs.declared.edge.Edge.{Edge}
use Rattle.hpr_graph.specs.declared.link.Link.{Link}
use Rattle.hpr_graph.specs.Graphs.{Graph, Same, union_of}
use Rattle.hpr_graph.specs.Numbered.{Numbered, HasEdge, HasLink, HasVertex, graph_in}
use Rattle.hpr_graph.specs.Slices.{LeadsTo, ReachesOne, slice_at}
use Rattle.hpr_graph.specs.Conflicts.{IsAdded, IsLeast}
use Rattle.hpr_graph.specs.Whole.{HasEnds, HasLoops}
use Rattle.hpr_graph.proofs.Laws.{vertices_map}

-- the vertices and edges of what is put together
module _ (bare g other u r : Numbered) (vertices : bare.vertices ≡ other.vertices) (none : (to : ℕ) (l : Link) → ¬ HasLink bare to l) (united : Same (graph_in u) (union_of (graph_in g) (graph_in bare))) (ordered : Same (graph_in r) (graph_in u)) where
  pub all_vertices : (v : Vertex) → HasVertex r v ↔ (HasVertex g v ⊎ HasVertex other v)
  all_vertices v = (
    λ h. elim ((united.0 v).0 ((ordered.0 v).0 h)) [ inl of_g ↦ inl of_g | inr of_bare ↦ inr (subst (λ (vs : List Vertex). Contains vs v) vertices of_bare) ],
    λ h. elim h [
      | inl of_g ↦ (ordered.0 v).1 ((united.0 v).1 (inl of_g))
      | inr of_other ↦ (ordered.0 v).1 ((united.0 v).1 (inr (subst (λ (vs : List Vertex). Contains vs v) (sym vertices) of_other)))
    ],
  )

  pub all_edges : (e : Edge) → HasEdge r e ↔ HasEdge g e
  all_edges e = (
    λ h. elim ((united.1 e).0 ((ordered.1 e).0 h)) [ inl of_g ↦ of_g | inr (to, l, has, at) ↦ absurd (none to l has) ],
    λ h. (ordered.1 e).1 ((united.1 e).1 (inl h)),
  )

-- what leads in one graph leads in another with all of its edges
leads_over : (g h : Graph) → ((e : Edge) → g.edge e → h.edge e) → (a : Vertex) (es : List Edge) (b : Vertex) → LeadsTo g a es b → LeadsTo h a es b
leads_over g h into a [] b w = w
leads_over g h into a (e ∷ es) b w = (into e w.0, w.1, w.2, leads_over g h into e.to es b w.3)

pub loops_over : (g h : Graph) → ((e : Edge) → h.edge e ↔ g.edge e) → HasLoops g → HasLoops h
loops_over g h same loops e x w has is = let (es, leads) = loops e x w ((same e).0 has) is in (es, leads_over g h (λ f. (same f).1) w es e.to leads)

reaches_over : (g h : Graph) → ((e : Edge) → g.edge e → h.edge e) → (v w : Vertex) → ReachesOne g (λ s. s ≡ v) w → ReachesOne h (λ s. s ≡ v) w
reaches_over g h into v w (s, es, is, leads) = (s, es, is, leads_over g h into w es s leads)

edges_over : (g h : Graph) → ((e : Edge) → g.edge e → h.edge e) → (v : Vertex) (e : Edge) → (slice_at g v).edge e → (slice_at h v).edge e
edges_over g h into v e (has, inside) = (into e has, vertices_map (ReachesOne g (λ s. s ≡ v)) (ReachesOne h (λ s. s ≡ v)) (reaches_over g h into v) e inside)

-- what leads to a vertex of a closed graph is one of its vertices
leads_from_vertex : (g : Graph) → HasEnds g → (a : Vertex) (es : List Edge) (b : Vertex) → g.vertex b → LeadsTo g a es b → g.vertex a
leads_from_vertex g closed a [] b there w = subst g.vertex (sym w) there
leads_from_vertex g closed a (e ∷ es) b there (has, l, from, rest) = subst g.vertex from (closed e has).1

-- more vertices don't matter to what is added to a slice
module _ (m m' g g' : Graph) (closed : HasEnds g) (same : (e : Edge) → m'.edge e ↔ m.edge e) (own : (e : Edge) → g'.edge e ↔ g.edge e) (wider : (v : Vertex) → g.vertex v → g'.vertex v) where
  pub added_narrow : (v : Vertex) → g.vertex v → (e : Edge) → IsAdded m' g' v e → IsAdded m g v e
  added_narrow v there e (in_m, new, (at_g, (s, es, is, leads))) =
      let leads' = leads_over g' g (λ f. (own f).0) e.to es s leads in (
        edges_over m' m (λ f. (same f).0) v e in_m,
        λ old. new (edges_over g g' (λ f. (own f).1) v e old),
        (leads_from_vertex g closed e.to es s (subst g.vertex (sym is) there) leads', (s, es, is, leads')),
      )

  pub added_wide : (v : Vertex) (e : Edge) → IsAdded m g v e → IsAdded m' g' v e
  added_wide v e (in_m, new, (at_g, reaches)) = (
    edges_over m m' (λ f. (same f).1) v e in_m,
    λ old. new (edges_over g' g (λ f. (own f).0) v e old),
    (wider e.to at_g, reaches_over g g' (λ f. (own f).1) v e.to reaches),
  )

  pub least_narrow : (v : Vertex) → g.vertex v → (e : Edge) → IsLeast (IsAdded m' g' v) e → IsLeast (IsAdded m g v) e
  least_narrow v there e (adds, least) = (added_narrow v there e adds, λ f added. least f (added_wide v f added))

  pub least_wide : (v : Vertex) → g.vertex v → (e : Edge) → IsLeast (IsAdded m g v) e → IsLeast (IsAdded m' g' v) e
  least_wide v there e (adds, least) = (added_wide v e adds, λ f added. least f (added_narrow v there f added))
