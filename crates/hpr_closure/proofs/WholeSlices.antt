-- Slices of whole graphs: a slice has with a vertex all control and flow edges into it, and with a use all order edges for it. Slices,
-- unions and merged graphs of whole graphs are whole.
use Rattle.std.proofs.Common.{◌≡◌, inl, inr, ℕ, zero, suc, List, [], ◌∷◌, refl, sym, subst}
use Rattle.hpr_graph.specs.declared.vertex.Vertex.{Vertex}
use Rattle.hpr_graph.specs.declared.edge.Kind.{Kind}
use Rattle.hpr_graph.specs.declared.edge.Kind.TheVariants as kind
use Rattle.hpr_graph.specs.declared.edge.Edge.{Edge}
use Rattle.hpr_graph.specs.Graphs.{Graph, IsWithin, Same, OnThird, HasVertices, union_of, nothing}
use Rattle.hpr_graph.specs.Slices.{Leads, LeadsTo, ReachesOne, slice_of, slice_at}
use Rattle.hpr_graph.specs.Points.{IsAffected, IsPreservedBy, changed, merged_all}
use Rattle.hpr_graph.specs.Conflicts.{graph_at}
use Rattle.hpr_graph.proofs.Laws.{first_within, second_within, leads_within, vertices_map, same_turned, within_from_same}
use Rattle.hpr_graph.specs.Whole.{HasLoops, LeadsRight, HasUses, HasEnds, IsWhole, AreAll}

-- what leads on leads on
leads_then : (g : Graph) (a : Vertex) (es : List Edge) (b : Vertex) (fs : List Edge) (c : Vertex) → LeadsTo g a es b → LeadsTo g b fs c → (gs : List Edge) × LeadsTo g a gs c
leads_then g a [] b fs c w x = (fs, subst (λ (z : Vertex). LeadsTo g z fs c) (sym w) x)
leads_then g a (e ∷ es) b fs c w x = let (gs, y) = leads_then g e.to es b fs c w.3 x in (e ∷ gs, (w.0, w.1, w.2, y))

pub reaches_by : (g : Graph) (S : Vertex → Type 0) (a : Vertex) (es : List Edge) (b : Vertex) → ReachesOne g S b → LeadsTo g a es b → ReachesOne g S a
reaches_by g S a es b (s, fs, one, leads) w = let (gs, x) = leads_then g a es b fs s w leads in (s, gs, one, x)

pub reaches_right : (g : Graph) (S : Vertex → Type 0) (a b : Vertex) → ReachesOne g S b → LeadsRight g a b → ReachesOne g S a
reaches_right g S a b r (f, has, l, from, to) = reaches_by g S a (f ∷ []) b r (has, l, from, to)

-- all vertices have both
third_both : (P Q : Vertex → Type 0) (k : Kind) → OnThird P k → OnThird Q k → OnThird (λ v. P v × Q v) k
third_both P Q (kind.Control label) p q = tt
third_both P Q (kind.Independent x) p q = tt
third_both P Q (kind.Carried x w) p q = (p, q)
third_both P Q (kind.Order u) p q = (p, q)

vertices_both : (P Q : Vertex → Type 0) (e : Edge) → HasVertices P e → HasVertices Q e → HasVertices (λ v. P v × Q v) e
vertices_both P Q e p q = ((p.0, q.0), (p.1, q.1), third_both P Q e.kind p.2 q.2)

-- slices lose nothing on the way
module _ (g : Graph) (loops : HasLoops g) (S : Vertex → Type 0) where
  third_reaches : (e : Edge) (k : Kind) → e.kind ≡ k → g.edge e → Leads k → ReachesOne g S e.to → OnThird (ReachesOne g S) k
  third_reaches e (kind.Control label) is has l r = tt
  third_reaches e (kind.Independent x) is has l r = tt
  third_reaches e (kind.Carried x w) is has l r = let (es, leads) = loops e x w has is in reaches_by g S w es e.to r leads
  third_reaches e (kind.Order u) is has l r = absurd l

  pub edge_inside : (e : Edge) → g.edge e → Leads e.kind → ReachesOne g S e.to → HasVertices (ReachesOne g S) e
  edge_inside e has l r = (r, reaches_by g S e.from (e ∷ []) e.to r (has, l, refl, refl), third_reaches e e.kind refl has l r)

  pub leads_kept : (a : Vertex) (es : List Edge) (b : Vertex) → LeadsTo g a es b → ReachesOne g S b → LeadsTo (slice_of g S) a es b
  leads_kept a [] b w r = w
  leads_kept a (e ∷ es) b (has, l, from, rest) r =
      ((has, edge_inside e has l (reaches_by g S e.to es b r rest)), l, from, leads_kept e.to es b rest r)

  pub slice_loops : HasLoops (slice_of g S)
  slice_loops e x w (has, inside) is = let (es, leads) = loops e x w has is in (es, leads_kept w es e.to leads inside.0)

  up : (v : Vertex) → S v → (w : Vertex) → ReachesOne g (λ s. s ≡ v) w → ReachesOne g S w
  up v one w (s, es, is, leads) = (s, es, subst S (sym is) one, leads)

  over : (h : Graph) → IsWithin (slice_of g S) h → (v : Vertex) → S v → (w : Vertex) → ReachesOne g (λ s. s ≡ v) w → ReachesOne h (λ s. s ≡ v) w
  over h within v one w (s, es, is, leads) =
      let there : ReachesOne g S s = (s, [], subst S (sym is) one, refl) in
      (s, es, is, leads_within (slice_of g S) h within w es s (leads_kept w es s leads there))

  -- a graph that has the slice of some vertices has the slice of each of them
  pub point_within : (h : Graph) → IsWithin (slice_of g S) h → (v : Vertex) → S v → IsWithin (slice_at g v) (slice_at h v)
  point_within h within v one = (
    λ w (has, r). (within.0 w (has, up v one w r), over h within v one w r),
    λ e (has, inside). (
      within.1 e (has, vertices_map (ReachesOne g (λ s. s ≡ v)) (ReachesOne g S) (up v one) e inside),
      vertices_map (ReachesOne g (λ s. s ≡ v)) (ReachesOne h (λ s. s ≡ v)) (over h within v one) e inside,
    ),
  )

  module _ (uses : HasUses g) where
    pub use_inside : (e : Edge) (u : Vertex) → g.edge e → e.kind ≡ kind.Order u → ReachesOne g S u → HasVertices (ReachesOne g S) e
    use_inside e u has is r =
        let both = uses e u has is in
        (reaches_right g S e.to u r both.1, reaches_right g S e.from u r both.0, subst (OnThird (ReachesOne g S)) (sym is) r)

    right_kept : (u w : Vertex) → ReachesOne g S u → LeadsRight g w u → LeadsRight (slice_of g S) w u
    right_kept u w r (f, has, l, from, to) = (f, (has, edge_inside f has l (subst (ReachesOne g S) (sym to) r)), l, from, to)

    pub slice_uses : HasUses (slice_of g S)
    slice_uses e u (has, inside) is =
        let both = uses e u has is in
        let r : ReachesOne g S u = subst (OnThird (ReachesOne g S)) is inside.2 in
        (right_kept u e.from r both.0, right_kept u e.to r both.1)

slice_ends : (g : Graph) (S : Vertex → Type 0) → HasEnds g → HasEnds (slice_of g S)
slice_ends g S ends e (has, inside) = vertices_both g.vertex (ReachesOne g S) e (ends e has) inside

pub slice_whole : (g : Graph) (S : Vertex → Type 0) → IsWhole g → IsWhole (slice_of g S)
slice_whole g S whole = record {
  loops = slice_loops g whole.loops S;
  uses = slice_uses g whole.loops S whole.uses;
  ends = slice_ends g S whole.ends;
}

union_loops : (g h : Graph) → HasLoops g → HasLoops h → HasLoops (union_of g h)
union_loops g h a b e x w (inl has) is = let (es, leads) = a e x w has is in (es, leads_within g (union_of g h) (first_within g h) w es e.to leads)
union_loops g h a b e x w (inr has) is = let (es, leads) = b e x w has is in (es, leads_within h (union_of g h) (second_within g h) w es e.to leads)

right_within : (g h : Graph) → IsWithin g h → (v w : Vertex) → LeadsRight g v w → LeadsRight h v w
right_within g h i v w (e, has, l, from, to) = (e, i.1 e has, l, from, to)

union_uses : (g h : Graph) → HasUses g → HasUses h → HasUses (union_of g h)
union_uses g h a b e u (inl has) is =
    let both = a e u has is in (right_within g (union_of g h) (first_within g h) e.from u both.0, right_within g (union_of g h) (first_within g h) e.to u both.1)
union_uses g h a b e u (inr has) is =
    let both = b e u has is in (right_within h (union_of g h) (second_within g h) e.from u both.0, right_within h (union_of g h) (second_within g h) e.to u both.1)

union_ends : (g h : Graph) → HasEnds g → HasEnds h → HasEnds (union_of g h)
union_ends g h a b e (inl has) = vertices_map g.vertex (union_of g h).vertex (first_within g h).0 e (a e has)
union_ends g h a b e (inr has) = vertices_map h.vertex (union_of g h).vertex (second_within g h).0 e (b e has)

pub union_whole : (g h : Graph) → IsWhole g → IsWhole h → IsWhole (union_of g h)
union_whole g h a b = record {
  loops = union_loops g h a.loops b.loops;
  uses = union_uses g h a.uses b.uses;
  ends = union_ends g h a.ends b.ends;
}

pub nothing_whole : IsWhole nothing
nothing_whole = record { loops = λ e x w has is. absurd has; uses = λ e u has is. absurd has; ends = λ e has. absurd has }

changed_whole : (base : Graph) (gs : List Graph) → AreAll IsWhole gs → IsWhole (changed base gs)
changed_whole base [] all = nothing_whole
changed_whole base (g ∷ []) all = slice_whole g (IsAffected g base) all.0
changed_whole base (g ∷ h ∷ gs) all =
    union_whole (slice_of g (IsAffected g base)) (changed base (h ∷ gs)) (slice_whole g (IsAffected g base) all.0) (changed_whole base (h ∷ gs) all.1)

pub merged_whole : (base : Graph) (gs : List Graph) → IsWhole base → AreAll IsWhole gs → IsWhole (merged_all base gs)
merged_whole base gs own all =
    union_whole (changed base gs) (slice_of base (IsPreservedBy base gs)) (changed_whole base gs all) (slice_whole base (IsPreservedBy base gs) own)

-- what each of the graphs has, the one with a number has, if nothing has it
pub at_number : (P : Graph → Type 0) → P nothing → (gs : List Graph) (i : ℕ) → AreAll P gs → P (graph_at gs i)
at_number P none [] i all = none
at_number P none (g ∷ gs) zero all = all.0
at_number P none (g ∷ gs) (suc i) all = at_number P none gs i all.1

pub whole_at : (gs : List Graph) (i : ℕ) → AreAll IsWhole gs → IsWhole (graph_at gs i)
whole_at gs i all = at_number IsWhole nothing_whole gs i all

-- what the variants changed has the slice of each one's affected points, and so has the merged graph
changed_within : (base : Graph) (gs : List Graph) (i : ℕ) → IsWithin (slice_of (graph_at gs i) (IsAffected (graph_at gs i) base)) (changed base gs)
changed_within base [] i = (λ v h. absurd h.0, λ e h. absurd h.0)
changed_within base (g ∷ []) zero = (λ v h. h, λ e h. h)
changed_within base (g ∷ []) (suc i) = (λ v h. absurd h.0, λ e h. absurd h.0)
changed_within base (g ∷ h ∷ gs) zero = (λ v x. inl x, λ e x. inl x)
changed_within base (g ∷ h ∷ gs) (suc i) = let rest = changed_within base (h ∷ gs) i in (λ v x. inr (rest.0 v x), λ e x. inr (rest.1 e x))

pub variant_within : (base : Graph) (gs : List Graph) (i : ℕ) → IsWithin (slice_of (graph_at gs i) (IsAffected (graph_at gs i) base)) (merged_all base gs)
variant_within base gs i = let own = changed_within base gs i in (λ v x. inl (own.0 v x), λ e x. inl (own.1 e x))

-- the same graph is whole too
pub whole_same : (g h : Graph) → Same g h → IsWhole h → IsWhole g
whole_same g h same whole = record {
  loops = λ e x w has is. (let (es, leads) = whole.loops e x w ((same.1 e).0 has) is in (es, leads_within h g back w es e.to leads));
  uses = λ e u has is. (let both = whole.uses e u ((same.1 e).0 has) is in (right_within h g back e.from u both.0, right_within h g back e.to u both.1));
  ends = λ e has. vertices_map h.vertex g.vertex back.0 e (whole.ends e ((same.1 e).0 has));
}
  where
    back : IsWithin h g
    back = within_from_same h g (same_turned g h same)
