-- What a finite graph decides.
use Rattle.std.proofs.Common.{◌≡◌, ◌⊎◌, inl, inr, List, [], ◌∷◌, Contains, refl, sym, ap, ◌∙◌, subst}
use Rattle.std.specs.declared.cmp.Ordering.{Ordering}
use Rattle.std.specs.declared.cmp.Ordering.TheVariants.{Less, Equal, Greater}
use Rattle.hpr_graph.specs.declared.vertex.Vertex.{Vertex}
use Rattle.hpr_graph.specs.declared.edge.Kind.{Kind}
use Rattle.hpr_graph.specs.declared.edge.Kind.TheVariants as kind
use Rattle.hpr_graph.specs.declared.edge.Edge.{Edge}
use Rattle.hpr_graph.specs.Graphs.{Graph, OnThird, HasVertices}
use Rattle.hpr_graph.specs.Order.{vertex_cmp, edge_cmp}
use Rattle.hpr_graph.specs.Slices.{Leads, LeadsTo, ReachesOne, slice_at}
use Rattle.hpr_terms.proofs.Facts.{in_none, in_cons, in_here, in_later}
use Rattle.hpr_graph.specs.Whole.{IsListed}
use Rattle.hpr_graph.proofs.EdgeOrder.{edge_cases}
use Rattle.hpr_graph.proofs.VertexOrder.{edge_never, edge_total, vertex_tied, vertex_itself}

abbrev pub Decided : Type 0 → Type 0
Decided P = P ⊎ ¬ P

pub both : (P Q : Type 0) → Decided P → Decided Q → Decided (P × Q)
both P Q (inl p) (inl q) = inl (p, q)
both P Q (inr p) q = inr (λ h. p h.0)
both P Q (inl p) (inr q) = inr (λ h. q h.1)

by_order : (v w : Vertex) (o : Ordering) → vertex_cmp v w ≡ o → Decided (v ≡ w)
by_order v w Equal is = inl (vertex_tied v w is)
by_order v w Less is = inr (λ same. (let tie = ap (λ (x : Vertex). vertex_cmp x w) same ∙ vertex_itself w in let e : Less ≡ Equal = sym is ∙ tie in cc))
by_order v w Greater is = inr (λ same. (let tie = ap (λ (x : Vertex). vertex_cmp x w) same ∙ vertex_itself w in let e : Greater ≡ Equal = sym is ∙ tie in cc))

pub vertex_decided : (v w : Vertex) → Decided (v ≡ w)
vertex_decided v w = by_order v w (vertex_cmp v w) refl

pub edge_decided : (e f : Edge) → Decided (e ≡ f)
edge_decided e f = elim (edge_cases e f) [
  | inl less ↦ inr (λ same. (let itself = subst (λ (x : Edge). edge_cmp x f ≡ Less) same less in edge_never f f itself itself))
  | inr rest ↦ elim rest [
    | inl same ↦ inl same
    | inr more ↦ inr (λ same. (let itself = subst (λ (x : Edge). edge_cmp f x ≡ Less) same more in edge_never f f itself itself))
  ]
]

pub listed_decided : (es : List Edge) (e : Edge) → Decided (Contains es e)
listed_decided [] e = inr (in_none e)
listed_decided (f ∷ es) e = elim (edge_decided f e) [
  | inl same ↦ inl (subst (λ (x : Edge). Contains (f ∷ es) x) same (in_here f es))
  | inr other ↦ elim (listed_decided es e) [
    | inl later ↦ inl (in_later f e es later)
    | inr stranger ↦ inr (λ h. elim (in_cons f e es h) [ inl same ↦ other same | inr later ↦ stranger later ])
  ]
]

pub leads_decided : (k : Kind) → Decided (Leads k)
leads_decided (kind.Control label) = inl tt
leads_decided (kind.Independent x) = inl tt
leads_decided (kind.Carried x w) = inl tt
leads_decided (kind.Order u) = inr (λ h. h)

-- whether all vertices of an edge have a property
third_decided : (P : Vertex → Type 0) → ((v : Vertex) → Decided (P v)) → (k : Kind) → Decided (OnThird P k)
third_decided P p (kind.Control label) = inl tt
third_decided P p (kind.Independent x) = inl tt
third_decided P p (kind.Carried x w) = p w
third_decided P p (kind.Order u) = p u

pub inside_decided : (P : Vertex → Type 0) → ((v : Vertex) → Decided (P v)) → (e : Edge) → Decided (HasVertices P e)
inside_decided P p e = elim (both (P e.to) (P e.from) (p e.to) (p e.from)) [
  | inr far ↦ inr (λ h. far (h.0, h.1))
  | inl ends ↦ elim (third_decided P p e.kind) [ inl third ↦ inl (ends.0, ends.1, third) | inr far ↦ inr (λ h. far h.2) ]
]

-- the graph with these edges, and a walk in it
abbrev edges_graph : List Edge → Graph
edges_graph es = record { vertex = λ v. Unit {0}; edge = λ e. Contains es e }

abbrev Walk : List Edge → Vertex → Vertex → Type 0
Walk es a b = (ws : List Edge) × LeadsTo (edges_graph es) a ws b

walk_later : (f : Edge) (es ws : List Edge) (a b : Vertex) → LeadsTo (edges_graph es) a ws b → LeadsTo (edges_graph (f ∷ es)) a ws b
walk_later f es [] a b w = w
walk_later f es (e ∷ ws) a b (has, l, from, rest) = (in_later f e es has, l, from, walk_later f es ws e.to b rest)

walk_then : (es ws us : List Edge) (a b c : Vertex) → LeadsTo (edges_graph es) a ws b → LeadsTo (edges_graph es) b us c → Walk es a c
walk_then es [] us a b c w x = (us, subst (λ (z : Vertex). LeadsTo (edges_graph es) z us c) (sym w) x)
walk_then es (e ∷ ws) us a b c w x = let (vs, y) = walk_then es ws us e.to b c w.3 x in (e ∷ vs, (w.0, w.1, w.2, y))

-- a walk takes the first edge or it doesn't
abbrev Over : Edge → List Edge → Vertex → Vertex → Type 0
Over f es a b = Leads f.kind × Walk es a f.from × Walk es f.to b

walk_split : (f : Edge) (es ws : List Edge) (a b : Vertex) → LeadsTo (edges_graph (f ∷ es)) a ws b → Walk es a b ⊎ Over f es a b
walk_split f es [] a b w = inl ([], w)
walk_split f es (e ∷ ws) a b (has, l, from, rest) = elim (in_cons f e es has) [
  | inl same ↦
      (let leads : Leads f.kind = subst (λ (x : Edge). Leads x.kind) (sym same) l in
      let start : a ≡ f.from = sym from ∙ ap (λ (x : Edge). x.from) (sym same) in
      elim (walk_split f es ws e.to b rest) [
        | inl (us, x) ↦ inr (leads, ([], start), (us, subst (λ (x : Edge). LeadsTo (edges_graph es) x.to us b) (sym same) x))
        | inr (lf, before, after) ↦ inr (lf, ([], start), after)
      ])
  | inr later ↦ elim (walk_split f es ws e.to b rest) [
    | inl (us, x) ↦ inl (e ∷ us, (later, l, from, x))
    | inr (lf, (us, x), after) ↦ inr (lf, (e ∷ us, (later, l, from, x)), after)
  ]
]

over_walk : (f : Edge) (es : List Edge) (a b : Vertex) → Over f es a b → Walk (f ∷ es) a b
over_walk f es a b (lf, (ws, x), (us, y)) = walk_then (f ∷ es) ws (f ∷ us) a f.from b (walk_later f es ws a f.from x) (in_here f es, lf, refl, walk_later f es us f.to b y)

walk_none : (ws : List Edge) (a b : Vertex) → LeadsTo (edges_graph []) a ws b → a ≡ b
walk_none [] a b w = w
walk_none (e ∷ ws) a b w = absurd (in_none e w.0)

walk_decided : (es : List Edge) (a b : Vertex) → Decided (Walk es a b)
walk_decided [] a b = elim (vertex_decided a b) [ inl same ↦ inl ([], same) | inr other ↦ inr (λ (ws, w). other (walk_none ws a b w)) ]
walk_decided (f ∷ es) a b = elim (walk_decided es a b) [
  | inl (ws, w) ↦ inl (ws, walk_later f es ws a b w)
  | inr none ↦ elim (both (Leads f.kind) (Walk es a f.from × Walk es f.to b) (leads_decided f.kind) (both (Walk es a f.from) (Walk es f.to b) (walk_decided es a f.from) (walk_decided es f.to b))) [
    | inl (lf, (before, after)) ↦ inl (over_walk f es a b (lf, before, after))
    | inr none_over ↦ inr (λ (ws, w). elim (walk_split f es ws a b w) [ inl old ↦ none old | inr (lf, before, after) ↦ none_over (lf, (before, after)) ])
  ]
]

module _ (g : Graph) (listed : IsListed g) where
  leads_listed : (ws : List Edge) (a b : Vertex) → LeadsTo g a ws b → LeadsTo (edges_graph listed.0) a ws b
  leads_listed [] a b w = w
  leads_listed (e ∷ ws) a b (has, l, from, rest) = ((listed.1 e).1 has, l, from, leads_listed ws e.to b rest)

  listed_leads : (ws : List Edge) (a b : Vertex) → LeadsTo (edges_graph listed.0) a ws b → LeadsTo g a ws b
  listed_leads [] a b w = w
  listed_leads (e ∷ ws) a b (has, l, from, rest) = ((listed.1 e).0 has, l, from, listed_leads ws e.to b rest)

  pub reach_decided : (v w : Vertex) → Decided (ReachesOne g (λ s. s ≡ v) w)
  reach_decided v w = elim (walk_decided listed.0 w v) [
    | inl (ws, x) ↦ inl (v, ws, refl, listed_leads ws w v x)
    | inr none ↦ inr (λ (s, ws, is, x). none (ws, subst (λ (z : Vertex). LeadsTo (edges_graph listed.0) w ws z) is (leads_listed ws w s x)))
  ]

  pub edge_listed : (e : Edge) → Decided (g.edge e)
  edge_listed e = elim (listed_decided listed.0 e) [ inl has ↦ inl ((listed.1 e).0 has) | inr stranger ↦ inr (λ h. stranger ((listed.1 e).1 h)) ]

  -- whether an edge is one of a slice
  pub slice_edge_decided : (v : Vertex) (e : Edge) → Decided ((slice_at g v).edge e)
  slice_edge_decided v e =
      both (g.edge e) (HasVertices (ReachesOne g (λ s. s ≡ v)) e) (edge_listed e) (inside_decided (ReachesOne g (λ s. s ≡ v)) (reach_decided v) e)

-- the least of the listed edges with a property that is decided
abbrev LeastOf : (Edge → Type 0) → List Edge → Type 0
LeastOf P es = (e : Edge) × P e × ((f : Edge) → Contains es f → P f → ¬ (edge_cmp f e ≡ Less))

module _ (P : Edge → Type 0) (decided : (e : Edge) → Decided (P e)) where
  with_least : (f : Edge) (es : List Edge) → P f → LeastOf P es → LeastOf P (f ∷ es)
  with_least f es p (e, holds, least) = elim (edge_cases f e) [
    | inl less ↦ (
      f,
      p,
      λ d has q before. elim (in_cons f d es has) [
        | inl same ↦ (let itself = subst (λ (x : Edge). edge_cmp x f ≡ Less) (sym same) before in edge_never f f itself itself)
        | inr later ↦ least d later q (edge_total.trans d f e before less)
      ],
    )
    | inr rest ↦ (
      e,
      holds,
      λ d has q before. elim (in_cons f d es has) [
        | inr later ↦ least d later q before
        | inl same ↦
            (let f_before = subst (λ (x : Edge). edge_cmp x e ≡ Less) (sym same) before in
            elim rest [
              | inl tie ↦ (let itself = subst (λ (x : Edge). edge_cmp x e ≡ Less) tie f_before in edge_never e e itself itself)
              | inr more ↦ edge_never f e f_before more
            ])
      ],
    )
  ]

  pub least_decided : (es : List Edge) → ((e : Edge) → Contains es e → ¬ P e) ⊎ LeastOf P es
  least_decided [] = inl (λ e h. absurd (in_none e h))
  least_decided (f ∷ es) = elim (decided f) [
    | inl p ↦ elim (least_decided es) [
      | inl none ↦ inr (
        f,
        p,
        λ d has q before. elim (in_cons f d es has) [
          | inl same ↦ (let itself = subst (λ (x : Edge). edge_cmp x f ≡ Less) (sym same) before in edge_never f f itself itself)
          | inr later ↦ none d later q
        ],
      )
      | inr least ↦ inr (with_least f es p least)
    ]
    | inr other ↦ elim (least_decided es) [
      | inl none ↦ inl (λ e has. elim (in_cons f e es has) [ inl same ↦ subst (λ (x : Edge). ¬ P x) same other | inr later ↦ none e later ])
      | inr (e, holds, least) ↦ inr (e, holds, λ d has q before. elim (in_cons f d es has) [ inl same ↦ other (subst P (sym same) q) | inr later ↦ least d later q before ])
    ]
  ]
