-- A change that is the only one interferes with nothing.
use Rattle.std.proofs.Common.{◌≡◌, ℕ, zero, suc, ◌⊎◌, inl, inr, List, [], ◌∷◌, Contains, refl, sym, subst}
use Rattle.std.specs.List.{AllByRecursion}
use Rattle.hpr_syntax.specs.Shape.{IsProgram}
use Rattle.hpr_syntax.specs.Tree.{Tree}
use Rattle.hpr_graph.specs.declared.vertex.Vertex.{Vertex}
use Rattle.hpr_graph.specs.declared.edge.Kind.{Kind}
use Rattle.hpr_graph.specs.declared.edge.Kind.TheVariants as kind
use Rattle.hpr_graph.specs.declared.edge.Edge.{Edge}
use Rattle.hpr_graph.specs.Graphs.{Graph, IsWithin, Same, OnThird, HasVertices, union_of}
use Rattle.hpr_graph.specs.Points.{IsShared, IsAffected, AllShare, IsPreservedBy, changed}
use Rattle.hpr_graph.specs.ProgramGraph.{graph_of}
use Rattle.hpr_graph.specs.Slices.{Leads, ReachesOne, slice_of, slice_at}
use Rattle.hpr_graph.specs.Answer.{graphs_of, merged_of_all, AreWithoutConflict}
use Rattle.hpr_graph.proofs.Laws.{same_itself, same_from_within, reaches_within, slice_within, vertices_map}
use Rattle.hpr_graph.proofs.Lists.{in_none, in_cons, in_here, in_later}
use Rattle.hpr_graph.specs.Whole.{AreAll, HasLoops, HasUses}
use Rattle.hpr_closure.proofs.ProgramLoops.{program_loops}
use Rattle.hpr_closure.proofs.ProgramWhole.{program_uses, says_once}
use Rattle.hpr_closure.proofs.WholeSlices.{edge_inside, use_inside, point_within, variant_within}
use Rattle.hpr_meaning.specs.UnionLaw.{variant_at, affected_of, KeepsEach, KeepsSides}
use Rattle.hpr_engine.specs.OneSide.{IsOnlyChange}

-- where both graphs have the vertices of P with the same slices, the other has the slice of P
module _ (base g : Graph) (loops : HasLoops base) (uses : HasUses base) (P : Vertex → Type 0) (shared : (v : Vertex) → P v → IsShared base g v) where
  abbrev Reaches : Vertex → Vertex → Type 0
  Reaches s w = ReachesOne base (λ v. v ≡ s) w

  edge_at : (s : Vertex) → P s → (e : Edge) → base.edge e → HasVertices (Reaches s) e → g.edge e
  edge_at s p e has inside = (((shared s p).1.1 e).0 (has, inside)).0

  leading_edge : (e : Edge) → base.edge e → Leads e.kind → ReachesOne base P e.to → g.edge e
  leading_edge e has l (s, es, p, leads) = edge_at s p e has (edge_inside base loops (λ v. v ≡ s) e has l (s, es, refl, leads))

  order_edge : (e : Edge) (u : Vertex) → base.edge e → e.kind ≡ kind.Order u → ReachesOne base P u → g.edge e
  order_edge e u has is (s, es, p, leads) = edge_at s p e has (use_inside base loops (λ v. v ≡ s) uses e u has is (s, es, refl, leads))

  by_kind : (e : Edge) (k : Kind) → e.kind ≡ k → base.edge e → ReachesOne base P e.to → OnThird (ReachesOne base P) k → g.edge e
  by_kind e (kind.Control label) is has to third = leading_edge e has (subst Leads (sym is) tt) to
  by_kind e (kind.Independent x) is has to third = leading_edge e has (subst Leads (sym is) tt) to
  by_kind e (kind.Carried x w) is has to third = leading_edge e has (subst Leads (sym is) tt) to
  by_kind e (kind.Order u) is has to third = order_edge e u has is third

  shared_within : IsWithin (slice_of base P) g
  shared_within = (
    λ w (has, (s, es, p, leads)). (((shared s p).1.0 w).0 (has, (s, es, refl, leads))).0,
    λ e (has, inside). by_kind e e.kind refl has inside.0 inside.2,
  )

-- nothing of a graph is affected beside itself
unaffected : (g : Graph) (v : Vertex) → ¬ IsAffected g g v
unaffected g v (there, differs) = differs (there, same_itself (slice_at g v))

none_within : (g h : Graph) → IsWithin (slice_of g (IsAffected g g)) h
none_within g h = (
  λ w (has, (s, es, affected, leads)). absurd (unaffected g s affected),
  λ e (has, ((s, es, affected, leads), from, third)). absurd (unaffected g s affected),
)

union_within : (f g h : Graph) → IsWithin f h → IsWithin g h → IsWithin (union_of f g) h
union_within f g h a b = (
  λ v x. elim x [ inl l ↦ a.0 v l | inr r ↦ b.0 v r ],
  λ e x. elim x [ inl l ↦ a.1 e l | inr r ↦ b.1 e r ],
)

slice_at_within : (g h : Graph) (v : Vertex) → IsWithin g h → IsWithin (slice_at g v) (slice_at h v)
slice_at_within g h v i =
    let reaches : (w : Vertex) → ReachesOne g (λ s. s ≡ v) w → ReachesOne h (λ s. s ≡ v) w = reaches_within g h (λ s. s ≡ v) (λ s. s ≡ v) i (λ s x. x) in (
      λ w (has, r). (i.0 w has, reaches w r),
      λ e (has, inside). (i.1 e has, vertices_map (ReachesOne g (λ s. s ≡ v)) (ReachesOne h (λ s. s ≡ v)) reaches e inside),
    )

-- a merged graph within a variant's keeps its affected points' slices
within_keeps : (base g m : Graph) → HasLoops g → IsWithin m g → IsWithin (slice_of g (IsAffected g base)) m → (v : Vertex) → IsAffected g base v → Same (slice_at m v) (slice_at g v)
within_keeps base g m loops within has v affected =
    same_from_within (slice_at m v) (slice_at g v) (slice_at_within m g v within) (point_within g loops (IsAffected g base) m has v affected)

-- what all variants changed lies within a graph where what each of them changed does
changed_in : (base h : Graph) (gs : List Graph) → AreAll (λ g. IsWithin (slice_of g (IsAffected g base)) h) gs → IsWithin (changed base gs) h
changed_in base h [] all = (λ v x. absurd x, λ e x. absurd x)
changed_in base h (g ∷ []) all = all.0
changed_in base h (g ∷ f ∷ gs) all = union_within (slice_of g (IsAffected g base)) (changed base (f ∷ gs)) h all.0 (changed_in base h (f ∷ gs) all.1)

module _ (base v : Tree) where
  abbrev G : Graph
  G = graph_of base

  abbrev H : Graph
  H = graph_of v

  abbrev IsEither : Tree → Type 0
  IsEither w = (w ≡ base) ⊎ (w ≡ v)

  abbrev Mine : Graph → Graph
  Mine g = slice_of g (IsAffected g G)

  own_within : (w : Tree) → IsEither w → IsWithin (Mine (graph_of w)) H
  own_within w (inl is) = subst (λ (t : Tree). IsWithin (Mine (graph_of t)) H) (sym is) (none_within G H)
  own_within w (inr is) = subst (λ (t : Tree). IsWithin (Mine (graph_of t)) H) (sym is) (slice_within H (IsAffected H G))

  each_within : (vs : List Tree) → AllByRecursion IsEither vs → AreAll (λ g. IsWithin (Mine g) H) (graphs_of vs)
  each_within [] all = tt
  each_within (w ∷ ws) all = (own_within w all.0, each_within ws all.1)

  -- what all variants share, v shares
  v_shares : (vs : List Tree) → Contains vs v → (s : Vertex) → AllShare G (graphs_of vs) s → IsShared G H s
  v_shares [] there s share = absurd (in_none v there)
  v_shares (w ∷ []) there s share = elim (in_cons w v [] there) [
    | inl e ↦ subst (λ (t : Tree). IsShared G (graph_of t) s) e share
    | inr none ↦ absurd (in_none v none)
  ]
  v_shares (w ∷ u ∷ ws) there s share = elim (in_cons w v (u ∷ ws) there) [
    | inl e ↦ subst (λ (t : Tree). IsShared G (graph_of t) s) e share.0
    | inr later ↦ v_shares (u ∷ ws) later s share.1
  ]

  -- and what v shares, all do
  either_shares : (w : Tree) → IsEither w → (s : Vertex) → G.vertex s → IsShared G H s → IsShared G (graph_of w) s
  either_shares w (inl is) s there share = subst (λ (t : Tree). IsShared G (graph_of t) s) (sym is) (there, same_itself (slice_at G s))
  either_shares w (inr is) s there share = subst (λ (t : Tree). IsShared G (graph_of t) s) (sym is) share

  pub all_share : (vs : List Tree) → AllByRecursion IsEither vs → (s : Vertex) → G.vertex s → IsShared G H s → AllShare G (graphs_of vs) s
  all_share [] all s there share = tt
  all_share (w ∷ []) all s there share = either_shares w all.0 s there share
  all_share (w ∷ u ∷ ws) all s there share = (either_shares w all.0 s there share, all_share (u ∷ ws) all.1 s there share)

  -- v has a number, and a variant with an affected point is v
  of_v : (vs : List Tree) → Contains vs v → (P : Graph → Type 0) → ((i : ℕ) → P (variant_at vs i)) → P H
  of_v [] there P each = absurd (in_none v there)
  of_v (w ∷ ws) there P each = elim (in_cons w v ws there) [
    | inl e ↦ subst (λ (t : Tree). P (graph_of t)) e (each zero)
    | inr later ↦ of_v ws later P (λ i. each (suc i))
  ]

  affected_v : (vs : List Tree) → AllByRecursion IsEither vs → (i : ℕ) (s : Vertex) → affected_of i base vs s → (P : Graph → Type 0) → P H → P (variant_at vs i)
  affected_v [] all i s affected P h = absurd affected.0
  affected_v (w ∷ ws) all zero s affected P h = elim all.0 [
    | inl is ↦ absurd (unaffected G s (subst (λ (t : Tree). IsAffected (graph_of t) G s) is affected))
    | inr is ↦ subst (λ (t : Tree). P (graph_of t)) (sym is) h
  ]
  affected_v (w ∷ ws) all (suc i) s affected P h = affected_v ws all.1 i s affected P h

  module _ (vs : List Tree) (only : IsOnlyChange base vs v) where
    abbrev M : Graph
    M = merged_of_all base vs

    pub mine_within : IsWithin (Mine H) M
    mine_within = of_v vs only.1 (λ g. IsWithin (Mine g) M) (variant_within G (graphs_of vs))

    module _ (is : IsProgram base) (is_v : IsProgram v) where
      loops_of_v : HasLoops H
      loops_of_v = program_loops v (says_once v is_v)

      pub merged_within : IsWithin M H
      merged_within =
          union_within (changed G (graphs_of vs)) (slice_of G (IsPreservedBy G (graphs_of vs))) H (changed_in G H (graphs_of vs) (each_within vs only.0))
          (shared_within G H (program_loops base (says_once base is)) (program_uses base) (IsPreservedBy G (graphs_of vs)) (λ s p. v_shares vs only.1 s p.2))

      pub only_keeps : KeepsEach base vs
      only_keeps i s affected =
          affected_v vs only.0 i s affected (λ g. IsAffected g G s → Same (slice_at M s) (slice_at g s)) (within_keeps G H M loops_of_v merged_within mine_within s) affected

-- of two variants, one of which is the base
pub a_alone : (base a : Tree) → IsOnlyChange base (a ∷ base ∷ []) a
a_alone base a = ((inr refl, (inl refl, tt)), in_here a (base ∷ []))

pub b_alone : (base b : Tree) → IsOnlyChange base (base ∷ b ∷ []) b
b_alone base b = ((inl refl, (inr refl, tt)), in_later base b (b ∷ []) (in_here b []))

pub b_is_base : (base a : Tree) → IsProgram base → IsProgram a → KeepsSides base a base
b_is_base base a is is_a = only_keeps base a (a ∷ base ∷ []) (a_alone base a) is is_a

pub a_is_base : (base b : Tree) → IsProgram base → IsProgram b → KeepsSides base base b
a_is_base base b is is_b = only_keeps base b (base ∷ b ∷ []) (b_alone base b) is is_b

-- where each affected point keeps its slice, there is no conflict
pub free_when_kept : {X : Type 0} (at : X → ℕ × Vertex × Edge) (base : Tree) (vs : List Tree) → KeepsEach base vs → AreWithoutConflict at base vs
free_when_kept {X} at base vs kept = (
  λ x. (λ h. absurd (in_none x h), λ ((affected, differs), least). absurd (differs (kept (at x).0 (at x).1 affected))),
  λ i j x y less first second. absurd cc,
)
