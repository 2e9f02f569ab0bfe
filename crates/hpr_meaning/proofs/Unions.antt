-- The law of the union: a preserved point keeps its slice in the merged graph; and where each affected point of a side keeps its slice,
-- so do all of them together.
use Rattle.std.proofs.Common.{◌≡◌, ℕ, inl, inr, List, [], ◌∷◌, refl, sym, subst}
use Rattle.std.specs.List.{AllByRecursion}
use Rattle.hpr_syntax.specs.Tree.{Tree}
use Rattle.hpr_syntax.specs.Shape.{IsProgram}
use Rattle.hpr_graph.specs.declared.vertex.Vertex.{Vertex}
use Rattle.hpr_graph.specs.declared.edge.Kind.{Kind}
use Rattle.hpr_graph.specs.declared.edge.Kind.TheVariants.{Control, Independent, Carried, Order}
use Rattle.hpr_graph.specs.declared.edge.Edge.{Edge}
use Rattle.hpr_graph.specs.Graphs.{Graph, IsWithin, Same, OnThird, HasVertices}
use Rattle.hpr_graph.specs.Points.{IsShared, AllShare, IsPreservedBy, changed, merged_all}
use Rattle.hpr_graph.specs.Answer.{graphs_of, merged_of_all}
use Rattle.hpr_graph.specs.ProgramGraph.{graph_of}
use Rattle.hpr_graph.specs.Slices.{Leads, LeadsTo, ReachesOne, slice_of, slice_at}
use Rattle.hpr_graph.proofs.Laws.{same_turned, same_from_within, vertices_map}
use Rattle.hpr_graph.specs.Whole.{HasLoops, HasUses, HasEnds, IsWhole, AreAll}
use Rattle.hpr_closure.proofs.ProgramWhole.{program_ends, program_whole, programs_whole}
use Rattle.hpr_closure.proofs.WholeSlices.{edge_inside, use_inside, point_within, merged_whole, whole_at}
use Rattle.hpr_merge.proofs.EdgeStands.{changed_by}
use Rattle.hpr_meaning.specs.UnionLaw.{variant_at, affected_of, AreKept, KeepsEach, LiesInOne, IsUnionKept}
use Rattle.hpr_meaning.proofs.SidesKept.{each_kept}

-- a preserved point: base has it, and all variants have its slice
module _ (base : Graph) (loops : HasLoops base) (closed : HasEnds base) (v : Vertex) (there : base.vertex v) where
  abbrev Own : Vertex → Type 0
  Own w = ReachesOne base (λ s. s ≡ v) w

  abbrev Down : Vertex → Type 0
  Down w = Own w × base.vertex w

  -- an edge of a variant that leads into the slice is base's
  side_edge : (g : Graph) → HasLoops g → IsShared base g v → (e : Edge) → g.edge e → Leads e.kind → base.vertex e.to → Own e.to → base.edge e
  side_edge g of_g share e h l x r =
      let reach = ((share.1.0 e.to).0 (x, r)).1 in ((share.1.1 e).1 (h, edge_inside g of_g (λ s. s ≡ v) e h l reach)).0

  changed_edge : (gs : List Graph) → AreAll IsWhole gs → AllShare base gs v → (e : Edge) → (changed base gs).edge e → Leads e.kind → base.vertex e.to → Own e.to → base.edge e
  changed_edge [] all share e h l x r = absurd h
  changed_edge (g ∷ []) all share e h l x r = side_edge g all.0.loops share e h.0 l x r
  changed_edge (g ∷ f ∷ gs) all share e (inl h) l x r = side_edge g all.0.loops share.0 e h.0 l x r
  changed_edge (g ∷ f ∷ gs) all share e (inr h) l x r = changed_edge (f ∷ gs) all.1 share.1 e h l x r

  -- an edge of a variant between vertices of the slice is base's
  inner_edge : (g : Graph) → IsShared base g v → (e : Edge) → g.edge e → HasVertices Down e → base.edge e
  inner_edge g share e h inside =
      ((share.1.1 e).1 (h, vertices_map Down (ReachesOne g (λ s. s ≡ v)) (λ w d. ((share.1.0 w).0 (d.1, d.0)).1) e inside)).0

  inner_changed : (gs : List Graph) → AllShare base gs v → (e : Edge) → (changed base gs).edge e → HasVertices Down e → base.edge e
  inner_changed [] share e h inside = absurd h
  inner_changed (g ∷ []) share e h inside = inner_edge g share e h.0 inside
  inner_changed (g ∷ f ∷ gs) share e (inl h) inside = inner_edge g share.0 e h.0 inside
  inner_changed (g ∷ f ∷ gs) share e (inr h) inside = inner_changed (f ∷ gs) share.1 e h inside

  module _ (gs : List Graph) (all : AreAll IsWhole gs) (is : IsPreservedBy base gs v) where
    abbrev m : Graph
    m = merged_all base gs

    edge_down : (e : Edge) → m.edge e → Leads e.kind → base.vertex e.to → Own e.to → base.edge e
    edge_down e (inl h) l x r = changed_edge gs all is.2 e h l x r
    edge_down e (inr h) l x r = h.0

    leads_down : (w : Vertex) (es : List Edge) → LeadsTo m w es v → LeadsTo base w es v × base.vertex w
    leads_down w [] at_v = (at_v, subst base.vertex (sym at_v) there)
    leads_down w (e ∷ es) (h, l, from, rest) =
        let d = leads_down e.to es rest in
        let own = edge_down e h l d.1 (v, es, refl, d.0) in
        ((own, l, from, d.0), subst base.vertex from (closed e own).1)

    reach_down : (w : Vertex) → ReachesOne m (λ s. s ≡ v) w → Down w
    reach_down w (s, es, at_v, leads) = let d = leads_down w es (subst (λ z. LeadsTo m w es z) at_v leads) in ((v, es, refl, d.0), d.1)

    inner_down : (e : Edge) → m.edge e → HasVertices Down e → base.edge e
    inner_down e (inl h) inside = inner_changed gs is.2 e h inside
    inner_down e (inr h) inside = h.0

    slice_down : IsWithin (slice_at m v) (slice_at base v)
    slice_down = (
      (λ w (h, r). let d = reach_down w r in (d.1, d.0)),
      (λ e (h, inside). let down = vertices_map (ReachesOne m (λ s. s ≡ v)) Down reach_down e inside in
          (inner_down e h down, vertices_map Down Own (λ w d. d.0) e down)),
    )

    pub preserved_kept : Same (slice_at (merged_all base gs) v) (slice_at base v)
    preserved_kept = same_from_within (slice_at m v) (slice_at base v) slice_down (point_within base loops (IsPreservedBy base gs) m ((λ w h. inr h), (λ e h. inr h)) v is)

-- both ends of an order edge lead to its shared use, so an edge of the slice of some vertices is one of the slice of one of them
module _ (g : Graph) (loops : HasLoops g) (uses : HasUses g) (S : Vertex → Type 0) where
  abbrev InPoint : Edge → Type 0
  InPoint e = (s : Vertex) × S s × HasVertices (ReachesOne g (λ z. z ≡ s)) e

  leading_point : (e : Edge) → g.edge e → Leads e.kind → ReachesOne g S e.to → InPoint e
  leading_point e h l (s, es, one, leads) = (s, one, edge_inside g loops (λ z. z ≡ s) e h l (s, es, refl, leads))

  point_by : (e : Edge) (k : Kind) → e.kind ≡ k → g.edge e → ReachesOne g S e.to → OnThird (ReachesOne g S) k → InPoint e
  point_by e (Control label) is h to third = leading_point e h (subst Leads (sym is) tt) to
  point_by e (Independent x) is h to third = leading_point e h (subst Leads (sym is) tt) to
  point_by e (Carried x w) is h to third = leading_point e h (subst Leads (sym is) tt) to
  point_by e (Order u) is h to (s, es, one, leads) = (s, one, use_inside g loops (λ z. z ≡ s) uses e u h is (s, es, refl, leads))

  pub slice_point : (e : Edge) → (slice_of g S).edge e → InPoint e
  slice_point e (h, inside) = point_by e e.kind refl h inside.0 inside.2

-- where each of some points has one slice in two graphs, so have they all together
widened : (g : Graph) (S : Vertex → Type 0) (s : Vertex) → S s → (w : Vertex) → ReachesOne g (λ z. z ≡ s) w → ReachesOne g S w
widened g S s one w (z, es, is, leads) = (z, es, subst S (sym is) one, leads)

points_within : (g h : Graph) → HasLoops g → HasUses g → (S : Vertex → Type 0) → ((v : Vertex) → S v → Same (slice_at g v) (slice_at h v)) → IsWithin (slice_of g S) (slice_of h S)
points_within g h loops uses S same = (
  (λ w (has, (s, es, one, leads)). let q = ((same s one).0 w).0 (has, (s, es, refl, leads)) in (q.0, widened h S s one w q.1)),
  (λ e inside. let (s, one, at_s) = slice_point g loops uses S e inside in
      let q = ((same s one).1 e).0 (inside.0, at_s) in
      (q.0, vertices_map (ReachesOne h (λ z. z ≡ s)) (ReachesOne h S) (widened h S s one) e q.1)),
)

pub points_same : (g h : Graph) → HasLoops g → HasLoops h → HasUses g → HasUses h → (S : Vertex → Type 0) → ((v : Vertex) → S v → Same (slice_at g v) (slice_at h v)) → Same (slice_of g S) (slice_of h S)
points_same g h lg lh ug uh S same =
    same_from_within (slice_of g S) (slice_of h S) (points_within g h lg ug S same)
    (points_within h g lh uh S (λ v one. same_turned (slice_at g v) (slice_at h v) (same v one)))

-- a preserved point of programs keeps its slice
pub keeps_preserved : (base : Tree) (vs : List Tree) → IsProgram base → AllByRecursion IsProgram vs → (v : Vertex) → IsPreservedBy (graph_of base) (graphs_of vs) v
    → Same (slice_at (merged_of_all base vs) v) (slice_at (graph_of base) v)
keeps_preserved base vs is all v kept =
    preserved_kept (graph_of base) (program_whole base is).loops (program_ends base) v kept.1 (graphs_of vs) (programs_whole vs all) kept

pub union_is_kept : (base : Tree) (vs : List Tree) → IsProgram base → AllByRecursion IsProgram vs → IsUnionKept base vs
union_is_kept base vs is all = record {
  preserved = keeps_preserved base vs is all;
  affected = together;
  free = λ free. together (each_kept base vs is all free);
  covered = λ v h. lies v h;
}
  where
    merged_is : IsWhole (merged_of_all base vs)
    merged_is = merged_whole (graph_of base) (graphs_of vs) (program_whole base is) (programs_whole vs all)

    together : KeepsEach base vs → (i : ℕ) → AreKept i base vs
    together keeps i =
        let variant_is = whole_at (graphs_of vs) i (programs_whole vs all) in
        points_same (merged_of_all base vs) (variant_at vs i) merged_is.loops variant_is.loops merged_is.uses variant_is.uses (affected_of i base vs) (keeps i)

    lies : (v : Vertex) → (merged_of_all base vs).vertex v → LiesInOne base vs v
    lies v (inl h) = inl (changed_by (graph_of base) (graphs_of vs) v h)
    lies v (inr h) = inr h
