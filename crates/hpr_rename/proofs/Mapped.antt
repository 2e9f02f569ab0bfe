-- A graph mapped by a map of vertices that takes each back: its slices, its points and its merged graph are the mapped ones.
use Rattle.std.proofs.Common.{◌≡◌, ℕ, List, [], ◌∷◌, map, refl, sym, ap, subst, ◌∙◌}
use Rattle.hpr_graph.specs.declared.vertex.Vertex.{Vertex}
use Rattle.hpr_graph.specs.declared.vertex.Vertex.TheVariants.{Init}
use Rattle.hpr_graph.specs.declared.edge.Kind.{Kind}
use Rattle.hpr_graph.specs.declared.edge.Kind.TheVariants.{Control, Independent, Carried, Order}
use Rattle.hpr_graph.specs.declared.edge.Edge.{Edge}
use Rattle.hpr_graph.specs.Graphs.{Graph, Same, OnThird, HasVertices, nothing}
use Rattle.hpr_graph.specs.Points.{IsShared, IsAffected, IsInit, AllShare, IsPreservedBy, changed, merged_all}
use Rattle.hpr_graph.specs.Slices.{Leads, LeadsTo, ReachesOne, slice_of, slice_at}
use Rattle.hpr_graph.proofs.Laws.{same_itself, same_turned, same_then, slice_same, union_same}

module _ (f : Vertex → Vertex) where
  abbrev pub mapped_kind : Kind → Kind
  mapped_kind (Control label) = Control label
  mapped_kind (Independent x) = Independent x
  mapped_kind (Carried x w) = Carried x (f w)
  mapped_kind (Order u) = Order (f u)

  abbrev pub mapped_edge : Edge → Edge
  mapped_edge e = record { to = f e.to; from = f e.from; kind = mapped_kind e.kind }

  -- what is in g once f mapped it
  abbrev pub mapped : Graph → Graph
  mapped g = record { vertex = λ v. g.vertex (f v); edge = λ e. g.edge (mapped_edge e) }

  pub mapped_same : (g h : Graph) → Same g h → Same (mapped g) (mapped h)
  mapped_same g h same = (λ v. same.0 (f v), λ e. same.1 (mapped_edge e))

  -- the vertices of a mapped edge
  third_in : (P Q : Vertex → Type 0) → ((v : Vertex) → P v → Q (f v)) → (k : Kind) → OnThird P k → OnThird Q (mapped_kind k)
  third_in P Q to (Control label) h = tt
  third_in P Q to (Independent x) h = tt
  third_in P Q to (Carried x w) h = to w h
  third_in P Q to (Order u) h = to u h

  inside_in : (P Q : Vertex → Type 0) → ((v : Vertex) → P v → Q (f v)) → (e : Edge) → HasVertices P e → HasVertices Q (mapped_edge e)
  inside_in P Q to e h = (to e.to h.0, to e.from h.1, third_in P Q to e.kind h.2)

  third_out : (P Q : Vertex → Type 0) → ((v : Vertex) → Q (f v) → P v) → (k : Kind) → OnThird Q (mapped_kind k) → OnThird P k
  third_out P Q to (Control label) h = tt
  third_out P Q to (Independent x) h = tt
  third_out P Q to (Carried x w) h = to w h
  third_out P Q to (Order u) h = to u h

  inside_out : (P Q : Vertex → Type 0) → ((v : Vertex) → Q (f v) → P v) → (e : Edge) → HasVertices Q (mapped_edge e) → HasVertices P e
  inside_out P Q to e h = (to e.to h.0, to e.from h.1, third_out P Q to e.kind h.2)

  leads_mapped : (k : Kind) → Leads k → Leads (mapped_kind k)
  leads_mapped (Control label) h = tt
  leads_mapped (Independent x) h = tt
  leads_mapped (Carried x w) h = tt
  leads_mapped (Order u) h = h

  module _ (back : (v : Vertex) → f (f v) ≡ v) where
    kind_twice : (k : Kind) → mapped_kind (mapped_kind k) ≡ k
    kind_twice (Control label) = refl
    kind_twice (Independent x) = refl
    kind_twice (Carried x w) = ap (λ (v : Vertex). Carried x v) (back w)
    kind_twice (Order u) = ap (λ (v : Vertex). Order v) (back u)

    pub edge_twice : (e : Edge) → mapped_edge (mapped_edge e) ≡ e
    edge_twice e =
        let p = back e.to in let q = back e.from in let r = kind_twice e.kind in (λ i. record { to = p i; from = q i; kind = r i })

    mapped_twice : (g : Graph) → Same (mapped (mapped g)) g
    mapped_twice g = (
      λ v. (λ h. subst g.vertex (back v) h, λ h. subst g.vertex (sym (back v)) h),
      λ e. (λ h. subst g.edge (edge_twice e) h, λ h. subst g.edge (sym (edge_twice e)) h),
    )

    mapped_back : (g h : Graph) → Same (mapped g) (mapped h) → Same g h
    mapped_back g h same =
        same_then g (mapped (mapped g)) h (same_turned (mapped (mapped g)) g (mapped_twice g))
        (same_then (mapped (mapped g)) (mapped (mapped h)) h (mapped_same (mapped g) (mapped h) same) (mapped_twice h))

    -- walks, and what they reach
    walk_in : (g : Graph) (a : Vertex) (es : List Edge) (b : Vertex) → LeadsTo (mapped g) a es b
        → LeadsTo g (f a) (map mapped_edge es) (f b)
    walk_in g a [] b is = ap f is
    walk_in g a (e ∷ es) b (has, leads, from, rest) = (has, leads_mapped e.kind leads, ap f from, walk_in g e.to es b rest)

    walk_out : (g : Graph) (a : Vertex) (es : List Edge) (b : Vertex) → LeadsTo g a es b
        → LeadsTo (mapped g) (f a) (map mapped_edge es) (f b)
    walk_out g a [] b is = ap f is
    walk_out g a (e ∷ es) b (has, leads, from, rest) =
        (subst g.edge (sym (edge_twice e)) has, leads_mapped e.kind leads, ap f from, walk_out g e.to es b rest)

    reach_in : (g : Graph) (S : Vertex → Type 0) (v : Vertex) → ReachesOne (mapped g) S v → ReachesOne g (λ s. S (f s)) (f v)
    reach_in g S v (s, es, one, walk) = (f s, map mapped_edge es, subst S (sym (back s)) one, walk_in g v es s walk)

    reach_out : (g : Graph) (S : Vertex → Type 0) (v : Vertex) → ReachesOne g (λ s. S (f s)) (f v) → ReachesOne (mapped g) S v
    reach_out g S v (s, es, one, walk) =
        let turned = subst (λ (a : Vertex). LeadsTo (mapped g) a (map mapped_edge es) (f s)) (back v) (walk_out g (f v) es s walk) in
        (f s, map mapped_edge es, one, turned)

    -- slices
    slice_mapped : (g : Graph) (S : Vertex → Type 0) → Same (slice_of (mapped g) S) (mapped (slice_of g (λ s. S (f s))))
    slice_mapped g S = (
      λ v. (λ (has, r). (has, reach_in g S v r), λ (has, r). (has, reach_out g S v r)),
      λ e. (
        λ (has, inside). (has, inside_in (ReachesOne (mapped g) S) (ReachesOne g (λ s. S (f s))) (reach_in g S) e inside),
        λ (has, inside). (has, inside_out (ReachesOne (mapped g) S) (ReachesOne g (λ s. S (f s))) (reach_out g S) e inside),
      ),
    )

    at_mapped : (g : Graph) (v : Vertex) → Same (slice_at (mapped g) v) (mapped (slice_at g (f v)))
    at_mapped g v =
        same_then (slice_at (mapped g) v) (mapped (slice_of g (λ s. f s ≡ v))) (mapped (slice_at g (f v))) (slice_mapped g (λ s. s ≡ v))
        (mapped_same (slice_of g (λ s. f s ≡ v)) (slice_at g (f v))
        (slice_same g g (λ s. f s ≡ v) (λ s. s ≡ f v) (same_itself g) (λ s. (λ is. sym (back s) ∙ ap f is, λ is. ap f is ∙ back v))))

    slices_in : (g h : Graph) (v : Vertex) → Same (slice_at (mapped g) v) (slice_at (mapped h) v)
        → Same (slice_at g (f v)) (slice_at h (f v))
    slices_in g h v same =
        mapped_back (slice_at g (f v)) (slice_at h (f v))
        (same_then (mapped (slice_at g (f v))) (slice_at (mapped g) v) (mapped (slice_at h (f v)))
        (same_turned (slice_at (mapped g) v) (mapped (slice_at g (f v))) (at_mapped g v))
        (same_then (slice_at (mapped g) v) (slice_at (mapped h) v) (mapped (slice_at h (f v))) same (at_mapped h v)))

    pub slices_out : (g h : Graph) (v : Vertex) → Same (slice_at g (f v)) (slice_at h (f v))
        → Same (slice_at (mapped g) v) (slice_at (mapped h) v)
    slices_out g h v same =
        same_then (slice_at (mapped g) v) (mapped (slice_at g (f v))) (slice_at (mapped h) v) (at_mapped g v)
        (same_then (mapped (slice_at g (f v))) (mapped (slice_at h (f v))) (slice_at (mapped h) v)
        (mapped_same (slice_at g (f v)) (slice_at h (f v)) same)
        (same_turned (slice_at (mapped h) v) (mapped (slice_at h (f v))) (at_mapped h v)))

    -- points
    shared_in : (g h : Graph) (v : Vertex) → IsShared (mapped g) (mapped h) v → IsShared g h (f v)
    shared_in g h v (there, same) = (there, slices_in g h v same)

    shared_out : (g h : Graph) (v : Vertex) → IsShared g h (f v) → IsShared (mapped g) (mapped h) v
    shared_out g h v (there, same) = (there, slices_out g h v same)

    pub affected_in : (g base : Graph) (v : Vertex) → IsAffected (mapped g) (mapped base) v → IsAffected g base (f v)
    affected_in g base v (there, differs) = (there, λ shared. differs (shared_out g base v shared))

    affected_out : (g base : Graph) (v : Vertex) → IsAffected g base (f v) → IsAffected (mapped g) (mapped base) v
    affected_out g base v (there, differs) = (there, λ shared. differs (shared_in g base v shared))

    all_in : (base : Graph) (gs : List Graph) (v : Vertex) → AllShare (mapped base) (map mapped gs) v → AllShare base gs (f v)
    all_in base [] v share = tt
    all_in base (g ∷ []) v share = shared_in base g v share
    all_in base (g ∷ h ∷ gs) v share = (shared_in base g v share.0, all_in base (h ∷ gs) v share.1)

    all_out : (base : Graph) (gs : List Graph) (v : Vertex) → AllShare base gs (f v) → AllShare (mapped base) (map mapped gs) v
    all_out base [] v share = tt
    all_out base (g ∷ []) v share = shared_out base g v share
    all_out base (g ∷ h ∷ gs) v share = (shared_out base g v share.0, all_out base (h ∷ gs) v share.1)

    -- a slice of points that are the mapped ones
    points_mapped : (g : Graph) (S T : Vertex → Type 0) → ((v : Vertex) → S v → T (f v)) → ((v : Vertex) → T (f v) → S v)
        → Same (slice_of (mapped g) S) (mapped (slice_of g T))
    points_mapped g S T to from =
        same_then (slice_of (mapped g) S) (mapped (slice_of g (λ s. S (f s)))) (mapped (slice_of g T)) (slice_mapped g S)
        (mapped_same (slice_of g (λ s. S (f s))) (slice_of g T)
        (slice_same g g (λ s. S (f s)) T (same_itself g) (λ s. (λ h. subst T (back s) (to (f s) h), λ h. from (f s) (subst T (sym (back s)) h)))))

    own_mapped : (g base : Graph)
        → Same (slice_of (mapped g) (IsAffected (mapped g) (mapped base))) (mapped (slice_of g (IsAffected g base)))
    own_mapped g base =
        points_mapped g (IsAffected (mapped g) (mapped base)) (IsAffected g base) (affected_in g base) (affected_out g base)

    changed_mapped : (base : Graph) (gs : List Graph) → Same (changed (mapped base) (map mapped gs)) (mapped (changed base gs))
    changed_mapped base [] = same_itself nothing
    changed_mapped base (g ∷ []) = own_mapped g base
    changed_mapped base (g ∷ h ∷ gs) =
        union_same (slice_of (mapped g) (IsAffected (mapped g) (mapped base))) (mapped (slice_of g (IsAffected g base)))
        (changed (mapped base) (map mapped (h ∷ gs))) (mapped (changed base (h ∷ gs)))
        (own_mapped g base) (changed_mapped base (h ∷ gs))

    module _ (init : (x : List ℕ) → f (Init x) ≡ Init x) where
      init_in : (v : Vertex) → IsInit v → IsInit (f v)
      init_in v (x, is) = (x, ap f is ∙ init x)

      init_out : (v : Vertex) → IsInit (f v) → IsInit v
      init_out v (x, is) = (x, sym (back v) ∙ ap f is ∙ init x)

      preserved_mapped : (base : Graph) (gs : List Graph)
          → Same (slice_of (mapped base) (IsPreservedBy (mapped base) (map mapped gs))) (mapped (slice_of base (IsPreservedBy base gs)))
      preserved_mapped base gs =
          points_mapped base (IsPreservedBy (mapped base) (map mapped gs)) (IsPreservedBy base gs)
          (λ v (other, there, share). (λ is. other (init_out v is), there, all_in base gs v share))
          (λ v (other, there, share). (λ is. other (init_in v is), there, all_out base gs v share))

      pub merged_mapped : (base : Graph) (gs : List Graph) → Same (merged_all (mapped base) (map mapped gs)) (mapped (merged_all base gs))
      merged_mapped base gs =
          union_same (changed (mapped base) (map mapped gs)) (mapped (changed base gs))
          (slice_of (mapped base) (IsPreservedBy (mapped base) (map mapped gs))) (mapped (slice_of base (IsPreservedBy base gs)))
          (changed_mapped base gs) (preserved_mapped base gs)
