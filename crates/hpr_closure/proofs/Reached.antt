-- The affected points are what is reached from the directly affected ones.
use Rattle.std.proofs.Common.{◌≡◌, ◌↔◌, ◌⊎◌, inl, inr, ℕ, List, [], ◌∷◌, Contains, refl, sym, ap, ◌∙◌, subst}
use Rattle.hpr_graph.specs.declared.vertex.Vertex.{Vertex}
use Rattle.hpr_graph.specs.declared.vertex.Vertex.TheVariants.{Entry}
use Rattle.hpr_graph.specs.declared.edge.Kind.{Kind}
use Rattle.hpr_graph.specs.declared.edge.Kind.TheVariants as kind
use Rattle.hpr_graph.specs.declared.edge.Edge.{Edge}
use Rattle.hpr_graph.specs.Graphs.{Graph, OnThird, HasVertices}
use Rattle.hpr_graph.specs.Slices.{Leads, LeadsTo, ReachesOne, IsReached}
use Rattle.hpr_graph.specs.Points.{IsShared, IsAffected, merged_all}
use Rattle.hpr_graph.specs.Conflicts.{graph_at, IsConflictAt}
use Rattle.hpr_graph.proofs.Laws.{vertices_map}
use Rattle.hpr_graph.specs.Direct.{AreAlikeInto, AreAlikeFor, IsAlike, IsDirectlyAffected}
use Rattle.hpr_graph.specs.Whole.{HasEnds, IsWhole, AreAll, IsFinite}
use Rattle.hpr_closure.proofs.Decided.{Decided, both, vertex_decided, edge_decided, edge_listed, leads_decided, reach_decided}
use Rattle.hpr_closure.proofs.Decisions.{implied, denied, each_decided, some_decided, turned}
use Rattle.hpr_closure.proofs.WholeSlices.{edge_inside, use_inside, merged_whole, whole_at, variant_within, point_within}

-- w leads to v
abbrev pub Before : Graph → Vertex → Vertex → Type 0
Before g v w = ReachesOne g (λ s. s ≡ v) w

pub leads_vertex : (g : Graph) → HasEnds g → (w : Vertex) (es : List Edge) (v : Vertex) → g.vertex v → LeadsTo g w es v → g.vertex w
leads_vertex g ends w [] v there is = subst g.vertex (sym is) there
leads_vertex g ends w (e ∷ es) v there (has, l, from, rest) = subst g.vertex from (ends e has).1

before_vertex : (g : Graph) → HasEnds g → (v w : Vertex) → g.vertex v → Before g v w → g.vertex w
before_vertex g ends v w there (s, es, is, leads) = leads_vertex g ends w es s (subst g.vertex (sym is) there) leads

before_itself : (g : Graph) (v : Vertex) → Before g v v
before_itself g v = (v, [], refl, refl)

-- where a point is shared, both graphs are alike at each vertex of its slice
module _ (g h : Graph) (whole : IsWhole g) (whole_too : IsWhole h) (v : Vertex) (there : g.vertex v) (shared : IsShared g h v) where
  over_there : (w : Vertex) → Before g v w → h.vertex w × Before h v w
  over_there w r = (shared.1.0 w).0 (before_vertex g whole.ends v w there r, r)

  alike_into : (w : Vertex) → Before g v w → AreAlikeInto g h w
  alike_into w r e to l = (
    λ has. ((shared.1.1 e).0 (has, edge_inside g whole.loops (λ s. s ≡ v) e has l (subst (Before g v) (sym to) r))).0,
    λ has. ((shared.1.1 e).1 (has, edge_inside h whole_too.loops (λ s. s ≡ v) e has l (subst (Before h v) (sym to) (over_there w r).1))).0,
  )

  alike_for : (w : Vertex) → Before g v w → AreAlikeFor g h w
  alike_for w r e is = (
    λ has. ((shared.1.1 e).0 (has, use_inside g whole.loops (λ s. s ≡ v) whole.uses e w has is r)).0,
    λ has. ((shared.1.1 e).1 (has, use_inside h whole_too.loops (λ s. s ≡ v) whole_too.uses e w has is (over_there w r).1)).0,
  )

  pub alike_before : (w : Vertex) → Before g v w → IsAlike g h w
  alike_before w r = ((over_there w r).0, alike_into w r, alike_for w r)

-- where both graphs are alike at each vertex of its slice, a point is shared; any graphs whose edges have their vertices will do
module _ (g h : Graph) (ends : HasEnds g) (v : Vertex) (there : g.vertex v) (alike : (w : Vertex) → Before g v w → IsAlike g h w) where
  to_other : (w : Vertex) (es : List Edge) → LeadsTo g w es v → LeadsTo h w es v
  to_other w [] is = is
  to_other w (e ∷ es) (has, l, from, rest) = (((alike e.to (v, es, refl, rest)).1 e refl l).0 has, l, from, to_other e.to es rest)

  from_other : (w : Vertex) (es : List Edge) → LeadsTo h w es v → LeadsTo g w es v
  from_other w [] is = is
  from_other w (e ∷ es) (has, l, from, rest) =
      let own = from_other e.to es rest in (((alike e.to (v, es, refl, own)).1 e refl l).1 has, l, from, own)

  before_other : (w : Vertex) → Before g v w → Before h v w
  before_other w (s, es, is, leads) = (v, es, refl, to_other w es (subst (λ (z : Vertex). LeadsTo g w es z) is leads))

  before_own : (w : Vertex) → Before h v w → Before g v w
  before_own w (s, es, is, leads) = (v, es, refl, from_other w es (subst (λ (z : Vertex). LeadsTo h w es z) is leads))

  edge_by : (e : Edge) (k : Kind) → e.kind ≡ k → Before g v e.to → OnThird (Before g v) k → g.edge e ↔ h.edge e
  edge_by e (kind.Control label) is to third = (alike e.to to).1 e refl (subst Leads (sym is) tt)
  edge_by e (kind.Independent x) is to third = (alike e.to to).1 e refl (subst Leads (sym is) tt)
  edge_by e (kind.Carried x w) is to third = (alike e.to to).1 e refl (subst Leads (sym is) tt)
  edge_by e (kind.Order u) is to third = (alike u third).2 e is

  edge_same : (e : Edge) → HasVertices (Before g v) e → g.edge e ↔ h.edge e
  edge_same e (to, from, third) = edge_by e e.kind refl to third

  pub shared_alike : IsShared g h v
  shared_alike = (
    (alike v (before_itself g v)).0,
    (
      λ w. (
        λ (has, r). ((alike w r).0, before_other w r),
        λ (has, r). (let own = before_own w r in (before_vertex g ends v w there own, own)),
      ),
      λ e. (
        λ (has, inside). ((edge_same e inside).0 has, vertices_map (Before g v) (Before h v) before_other e inside),
        λ (has, inside). (let own = vertices_map (Before h v) (Before g v) before_own e inside in ((edge_same e own).1 has, own)),
      ),
    ),
  )

-- what a finite graph decides
contained : (vs : List Vertex) (w : Vertex) → Decided (Contains vs w)
contained vs w = elim (some_decided (λ x. x ≡ w) (λ x. vertex_decided x w) vs) [
  | inl (x, h, is) ↦ inl (subst (λ (z : Vertex). Contains vs z) is h)
  | inr none ↦ inr (λ h. none w h refl)
]

pub vertex_there : (k : Graph) → IsFinite k → (w : Vertex) → Decided (k.vertex w)
vertex_there k f w = turned (Contains f.vertices.0 w) (k.vertex w) (f.vertices.1 w).0 (f.vertices.1 w).1 (contained f.vertices.0 w)

pub edge_there : (k : Graph) → IsFinite k → (e : Edge) → Decided (k.edge e)
edge_there k f e = edge_listed k f.edges e

-- whether the edges of one graph with a property are edges of another
abbrev Kept : (Edge → Type 0) → Graph → Graph → Type 0
Kept Q k m = (e : Edge) → Q e → k.edge e → m.edge e

kept_decided : (Q : Edge → Type 0) → ((e : Edge) → Decided (Q e)) → (k m : Graph) → IsFinite k → IsFinite m → Decided (Kept Q k m)
kept_decided Q q k m fk fm =
    turned ((e : Edge) → Contains fk.edges.0 e → Q e → m.edge e) (Kept Q k m)
    (λ all e x has. all e ((fk.edges.1 e).1 has) x) (λ all e listed x. all e x ((fk.edges.1 e).0 listed))
    (each_decided (λ e. Q e → m.edge e) (λ e. implied (Q e) (m.edge e) (q e) (edge_there m fm e)) fk.edges.0)

same_decided : (Q : Edge → Type 0) → ((e : Edge) → Decided (Q e)) → (k m : Graph) → IsFinite k → IsFinite m → Decided ((e : Edge) → Q e → k.edge e ↔ m.edge e)
same_decided Q q k m fk fm =
    turned (Kept Q k m × Kept Q m k) ((e : Edge) → Q e → k.edge e ↔ m.edge e) (λ (there, back) e x. (there e x, back e x)) (λ all. (λ e x. (all e x).0, λ e x. (all e x).1))
    (both (Kept Q k m) (Kept Q m k) (kept_decided Q q k m fk fm) (kept_decided Q q m k fm fk))

kind_decided : (k l : Kind) → Decided (k ≡ l)
kind_decided k l = elim (edge_decided (around k) (around l)) [
  | inl same ↦ inl (ap (λ (e : Edge). e.kind) same)
  | inr other ↦ inr (λ is. other (ap around is))
]
  where
    around : Kind → Edge
    around k = record { to = Entry; from = Entry; kind = k }

module _ (g h : Graph) (fin : IsFinite g) (fin_too : IsFinite h) where
  into_decided : (w : Vertex) → Decided (AreAlikeInto g h w)
  into_decided w =
      turned ((e : Edge) → ((e.to ≡ w) × Leads e.kind) → g.edge e ↔ h.edge e) (AreAlikeInto g h w) (λ all e to l. all e (to, l)) (λ all e x. all e x.0 x.1)
      (same_decided (λ e. (e.to ≡ w) × Leads e.kind) (λ e. both (e.to ≡ w) (Leads e.kind) (vertex_decided e.to w) (leads_decided e.kind)) g h fin fin_too)

  for_decided : (w : Vertex) → Decided (AreAlikeFor g h w)
  for_decided w = same_decided (λ e. e.kind ≡ kind.Order w) (λ e. kind_decided e.kind (kind.Order w)) g h fin fin_too

  pub alike_decided : (w : Vertex) → Decided (IsAlike g h w)
  alike_decided w =
      turned (h.vertex w × (AreAlikeInto g h w × AreAlikeFor g h w)) (IsAlike g h w) (λ (there, (into, for)). (there, into, for)) (λ (there, into, for). (there, (into, for)))
      (both (h.vertex w) (AreAlikeInto g h w × AreAlikeFor g h w) (vertex_there h fin_too w)
      (both (AreAlikeInto g h w) (AreAlikeFor g h w) (into_decided w) (for_decided w)))

  -- either some vertex that leads to v differs, or none does
  abbrev Differs : Vertex → Vertex → Type 0
  Differs v w = Before g v w × ¬ IsAlike g h w

  abbrev AllAlike : Vertex → Type 0
  AllAlike v = (w : Vertex) → Before g v w → IsAlike g h w

  differs_decided : (v w : Vertex) → Decided (Differs v w)
  differs_decided v w = both (Before g v w) (¬ IsAlike g h w) (reach_decided g fin.edges v w) (denied (IsAlike g h w) (alike_decided w))

  alike_unless : (w : Vertex) → ¬ (¬ IsAlike g h w) → IsAlike g h w
  alike_unless w n = elim (alike_decided w) [ inl is ↦ is | inr other ↦ absurd (n other) ]

  none_differs : (v : Vertex) → ¬ (¬ IsAlike g h v) → ((e : Edge) → Contains fin.edges.0 e → ¬ Differs v e.from) → AllAlike v
  none_differs v own none w (s, [], is, at) = alike_unless w (λ n. own (subst (λ (z : Vertex). ¬ IsAlike g h z) (at ∙ is) n))
  none_differs v own none w (s, e ∷ es, is, (has, l, from, rest)) =
      subst (IsAlike g h) from
      (alike_unless e.from (λ n. none e ((fin.edges.1 e).1 has) ((s, e ∷ es, is, (has, l, refl, rest)), n)))

  pub differs_or_alike : (v : Vertex) → ((w : Vertex) × Differs v w) ⊎ AllAlike v
  differs_or_alike v = elim (some_decided (λ (e : Edge). Differs v e.from) (λ e. differs_decided v e.from) fin.edges.0) [
    | inl (e, listed, d) ↦ inl (e.from, d)
    | inr none ↦ elim (alike_decided v) [
      | inr n ↦ inl (v, (before_itself g v, n))
      | inl own ↦ inr (none_differs v (λ n. n own) none)
    ]
  ]

  -- so a vertex is shared, or it is reached from a directly affected one
  module _ (whole : IsWhole g) (whole_too : IsWhole h) (v : Vertex) where
    pub shared_or_reached : g.vertex v → IsShared g h v ⊎ IsReached g (IsDirectlyAffected g h) v
    shared_or_reached there = elim (differs_or_alike v) [
      | inr alike ↦ inl (shared_alike g h whole.ends v there alike)
      | inl (w, ((s, es, is, leads), n)) ↦
          inr (w, es, (leads_vertex g whole.ends w es s (subst g.vertex (sym is) there) leads, n), subst (λ (z : Vertex). LeadsTo g w es z) is leads)
    ]

    pub reached_differs : g.vertex v → IsReached g (IsDirectlyAffected g h) v → ¬ IsShared g h v
    reached_differs there (w, es, (w_there, n), leads) shared = n (alike_before g h whole whole_too v there shared w (v, es, refl, leads))

    pub reached_vertex : IsReached g (IsDirectlyAffected g h) v → g.vertex v
    reached_vertex (w, es, (there, n), leads) = leads_on w es there leads
      where
        leads_on : (a : Vertex) (fs : List Edge) → g.vertex a → LeadsTo g a fs v → g.vertex v
        leads_on a [] at is = subst g.vertex is at
        leads_on a (e ∷ fs) at (has, l, from, rest) = leads_on e.to fs (whole.ends e has).0 rest

    -- the first law
    pub affected_reached : IsAffected g h v ↔ IsReached g (IsDirectlyAffected g h) v
    affected_reached = (
      λ (there, differs). elim (shared_or_reached there) [ inl shared ↦ absurd (differs shared) | inr reached ↦ reached ],
      λ reached. (let there = reached_vertex reached in (there, reached_differs there reached)),
    )

    pub affected_decided : Decided (IsAffected g h v)
    affected_decided = elim (vertex_there g fin v) [
      | inr out ↦ inr (λ a. out a.0)
      | inl there ↦ elim (shared_or_reached there) [
        | inl shared ↦ inr (λ a. a.1 shared)
        | inr reached ↦ inl (there, reached_differs there reached)
      ]
    ]

    pub shared_decided : g.vertex v → Decided (IsShared g h v)
    shared_decided there = elim (shared_or_reached there) [ inl shared ↦ inl shared | inr reached ↦ inr (reached_differs there reached) ]

-- the second law
module _ (base : Graph) (gs : List Graph) (whole : IsWhole base) (all : AreAll IsWhole gs) (i : ℕ) (v : Vertex) where
  abbrev M : Graph
  M = merged_all base gs

  abbrev Own : Graph
  Own = graph_at gs i

  own_whole : IsWhole Own
  own_whole = whole_at gs i all

  -- the merged graph has each affected point
  pub point_there : IsAffected Own base v → M.vertex v
  point_there affected =
      ((point_within Own own_whole.loops (IsAffected Own base) M (variant_within base gs i) v affected).0 v (affected.0, before_itself Own v)).0

  abbrev ReachedThere : Type 0
  ReachedThere = IsReached M (IsDirectlyAffected M Own) v

  pub conflict_reached : IsFinite M → IsFinite Own → IsConflictAt M Own base v ↔ (IsAffected Own base v × ReachedThere)
  conflict_reached fin fin_own = (
    λ (affected, differs). (affected, law.0 (point_there affected, λ shared. differs shared.1)),
    λ (affected, reached). (affected, λ same. (law.1 reached).1 (affected.0, same)),
  )
    where
      law : IsAffected M Own v ↔ ReachedThere
      law = affected_reached M Own fin fin_own (merged_whole base gs whole all) own_whole v
