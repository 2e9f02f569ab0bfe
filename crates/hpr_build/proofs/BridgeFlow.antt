-- The flow links are the flow edges of the program.
use Rattle.std.proofs.Common.{◌≡◌, ◌≢◌, ℕ, Bool, true, false, ◌⊎◌, ◌↔◌, inl, inr, Option, Some, List, [], ◌∷◌, Contains, refl, sym, ap, ◌∙◌, subst}
use Rattle.std.specs.List.{slice_get}
use Rattle.std.proofs.lemmas.Bool.{cases_eq}
use Rattle.std.proofs.lemmas.List.Elements.{All-contains}
use Rattle.hpr_terms.specs.declared.tag.Tag.{Tag}
use Rattle.hpr_terms.proofs.Facts.{in_none, in_here, in_later, in_cons}
use Rattle.hpr_syntax.specs.declared.rows.Content.{Content}
use Rattle.hpr_syntax.specs.declared.rows.Content.TheVariants.{While}
use Rattle.hpr_syntax.specs.Skeleton.{Point, skeleton}
use Rattle.hpr_syntax.specs.Nests.{Says}
use Rattle.hpr_syntax.specs.Places.{EnclosesBoth}
use Rattle.hpr_syntax.specs.Paths.{IsUndisturbed}
use Rattle.hpr_syntax.specs.Initial.{IsInitial}
use Rattle.hpr_syntax.specs.Shape.{IsProgram}
use Rattle.hpr_syntax.specs.Tree.{Tree}
use Rattle.hpr_paths.specs.declared.spot.Step.{Step}
use Rattle.hpr_paths.specs.Spots.{Spot, part, nest_at, IsLoopAt}
use Rattle.hpr_paths.specs.Successors.{spots}
use Rattle.hpr_paths.specs.Numbers.{IsNumberOf, NumberUndisturbed}
use Rattle.hpr_paths.proofs.Sound.{are_spots}
use Rattle.hpr_paths.proofs.Tags.{number_once}
use Rattle.hpr_paths.proofs.Nested.{says_of_number, number_of_says}
use Rattle.hpr_reach.specs.Reaches.{back_to, Reaches}
use Rattle.hpr_reach.proofs.Avoids.{avoids_nothing}
use Rattle.hpr_reach.proofs.ByTags.{path_to_numbers}
use Rattle.hpr_graph.specs.declared.vertex.Vertex.{Vertex}
use Rattle.hpr_graph.specs.declared.vertex.Vertex.TheVariants.{Init, Part}
use Rattle.hpr_graph.specs.declared.edge.Kind.TheVariants as kind
use Rattle.hpr_graph.specs.declared.edge.Edge.{Edge}
use Rattle.hpr_graph.specs.declared.link.LinkKind.{LinkKind}
use Rattle.hpr_graph.specs.declared.link.LinkKind.TheVariants as link
use Rattle.hpr_graph.specs.declared.link.Link.{Link}
use Rattle.hpr_graph.specs.Numbered.{IsEdgeAt}
use Rattle.hpr_graph.specs.ProgramGraph.{Defines, Reads, IsIndependent, IsCarried, HasFlow, IsEdgeOf}
use Rattle.hpr_build.specs.declared.flows.FlowKind.{FlowKind}
use Rattle.hpr_build.specs.declared.flows.FlowKind.TheVariants.{Independent, Carried}
use Rattle.hpr_build.specs.Flows.{IsFlowAt}
use Rattle.hpr_graph.specs.ProgramGraph as around
use Rattle.hpr_build.specs.Links.{vertices_of, IsSourceAt, IsTargetAt, IsFlowOf, IsFlowLink}
use Rattle.hpr_build.proofs.FlowTags.{independent_by_tags, carried_by_tags}
use Rattle.hpr_build.proofs.BridgeVertices.{vertex_at_role}
use Rattle.hpr_build.proofs.BridgePoints.{defines_once, reads_once, flows_from_init, source_defines, defines_source, target_reads, reads_target}

-- whether a list has an element
pub in_or_not : {X : Type 0} → ((a b : X) → (a ≡ b) ⊎ (a ≢ b)) → (xs : List X) (x : X) → Contains xs x ⊎ ¬ Contains xs x
in_or_not same [] x = inr (λ h. in_none x h)
in_or_not same (y ∷ xs) x = elim (same y x) [
  | inl e ↦ inl (subst (Contains (y ∷ xs)) e (in_here y xs))
  | inr ne ↦ elim (in_or_not same xs x) [
    | inl h ↦ inl (in_later y x xs h)
    | inr none ↦ inr (λ h. elim (in_cons y x xs h) [ inl e ↦ ne e | inr later ↦ none later ])
  ]
]

bool_same : (a b : Bool) → (a ≡ b) ⊎ (a ≢ b)
bool_same true true = inl refl
bool_same true false = inr (λ e. cc)
bool_same false true = inr (λ e. cc)
bool_same false false = inl refl

step_same : (a b : Step) → (a ≡ b) ⊎ (a ≢ b)
step_same a b = elim (cases_eq a.to b.to) [
  | inl e ↦ elim (bool_same a.back b.back) [
    | inl f ↦ inl (λ i. record { to = e i; back = f i })
    | inr ne ↦ inr (λ f. ne (ap (λ (s : Step). s.back) f))
  ]
  | inr ne ↦ inr (λ f. ne (ap (λ (s : Step). s.to) f))
]

-- an undisturbed path is a flow edge of some kind
module _ (ss : List Spot) (x : List ℕ) (d u : ℕ) where
  module _ (steps : List Step) where
    abbrev Carries : List ℕ → Type 0
    Carries ws = (w : ℕ) × Contains ws w × Contains (nest_at ss u) w × Contains steps (back_to w)

    abbrev Avoids : List ℕ → Type 0
    Avoids ws = (w : ℕ) → Contains ws w → Contains (nest_at ss u) w → ¬ Contains steps (back_to w)

    avoids_more : (w : ℕ) (ws : List ℕ) → ¬ (Contains (nest_at ss u) w × Contains steps (back_to w)) → Avoids ws → Avoids (w ∷ ws)
    avoids_more w ws none avoids v h k there = elim (in_cons w v ws h) [
      | inl e ↦ none (subst (Contains (nest_at ss u)) (sym e) k, subst (λ (n : ℕ). Contains steps (back_to n)) (sym e) there)
      | inr later ↦ avoids v later k there
    ]

    carries_or_avoids : (ws : List ℕ) → Carries ws ⊎ Avoids ws
    carries_or_avoids [] = inr (λ w h. absurd (in_none w h))
    carries_or_avoids (w ∷ ws) = elim (carries_or_avoids ws) [
      | inl (v, h, k, there) ↦ inl (v, in_later w v ws h, k, there)
      | inr avoids ↦ elim (in_or_not cases_eq (nest_at ss u) w) [
        | inl k ↦ elim (in_or_not step_same steps (back_to w)) [
          | inl there ↦ inl (w, in_here w ws, k, there)
          | inr none ↦ inr (avoids_more w ws (λ h. none h.1) avoids)
        ]
        | inr none ↦ inr (avoids_more w ws (λ h. none h.0) avoids)
      ]
    ]

  pub some_kind : Reaches ss x [] d u ↔ ((k : FlowKind) × IsFlowAt ss x d u k)
  some_kind = (
    (λ (steps, path, avoids). elim (carries_or_avoids steps (nest_at ss d)) [
      | inl (w, h, k, there) ↦ (Carried w, (h, k, (steps, path, there)))
      | inr none ↦ (Independent, (steps, path, none))
    ]),
    (λ (k, h). reach_by k h),
  )
    where
      reach_by : (k : FlowKind) → IsFlowAt ss x d u k → Reaches ss x [] d u
      reach_by Independent (steps, path, avoids) = (steps, path, avoids_nothing steps)
      reach_by (Carried w) (h, k, (steps, path, there)) = (steps, path, avoids_nothing steps)

module _ (t : Tree) (inits : List (List ℕ)) (prog : IsProgram t) where
  abbrev Vs : List Vertex
  Vs = vertices_of t inits

  -- a flow between numbers is one between the vertices
  module _ (x : List ℕ) (d u : ℕ) (from to : Vertex) (a z : Point) (defines : Defines t x from a) (reads : Reads t x to z) (na : IsNumberOf (spots t) d a) (nz : IsNumberOf (spots t) u z) where
    independent_of : IsFlowAt (spots t) x d u Independent → IsIndependent t x from to
    independent_of h =
        let (marks, path, avoids) = (independent_by_tags t prog d u a z na nz x).0 h in
        (a, z, marks, (defines, reads, path), avoids)

    carried_of : (l : ℕ) → IsFlowAt (spots t) x d u (Carried l) → (w : Vertex) × (slice_get Vs l ≡ Some w) × IsCarried t x w from to
    carried_of l h =
        let (v, e, role) : IsLoopAt (spots t) l = All-contains (λ w. IsLoopAt (spots t) w) (nest_at (spots t) d) l ((are_spots t).loops d) h.0 in
        let (around, (marks, path, there)) = (carried_by_tags t prog d u a z na nz l v (part v (While e), role, refl) x).0 h in (
          Part v (While e),
          vertex_at_role t inits l v (While e) role,
          (a, z, marks, v, While e, (defines, reads, path), refl, says_of_number t l v (While e) role, around, there),
        )

    flow_of_kind : (k : FlowKind) → IsFlowAt (spots t) x d u k → HasFlow t x from to
    flow_of_kind Independent h = inl (independent_of h)
    flow_of_kind (Carried l) h = let k = carried_of l h in inr (k.0, k.2)

    pub flow_of_reach : Reaches (spots t) x [] d u → HasFlow t x from to
    flow_of_reach h = let k = (some_kind (spots t) x d u).0 h in flow_of_kind k.0 k.1

  path_reaches : (x : List ℕ) (d u : ℕ) (from to : Vertex) (a z b y : Point) (marks : List (Option Tag)) → IsNumberOf (spots t) d a → IsNumberOf (spots t) u z → a ≡ b → z ≡ y → IsUndisturbed t.body x b y marks → Reaches (spots t) x [] d u
  path_reaches x d u from to a z b y marks na nz e f path =
      let k = path_to_numbers t prog x d b y marks (subst (IsNumberOf (spots t) d) e na) path in
      let same : k.0 ≡ u = number_once t k.0 u y prog k.3 (subst (IsNumberOf (spots t) u) f nz) in
      (k.1, subst (λ (n : ℕ). NumberUndisturbed (spots t) x d n k.1) same k.2, avoids_nothing k.1)

  pub reach_of_flow : (x : List ℕ) (d u : ℕ) (from to : Vertex) (a z : Point) → Defines t x from a → Reads t x to z → IsNumberOf (spots t) d a → IsNumberOf (spots t) u z → HasFlow t x from to → Reaches (spots t) x [] d u
  reach_of_flow x d u from to a z defines reads na nz (inl (b, y, marks, (defines', reads', path), avoids)) =
      path_reaches x d u from to a z b y marks na nz (defines_once t x x from a b defines defines') (reads_once t x x to z y reads reads') path
  reach_of_flow x d u from to a z defines reads na nz (inr (w, (b, y, marks, l, c, (defines', reads', path), is, says, around, there))) =
      path_reaches x d u from to a z b y marks na nz (defines_once t x x from a b defines defines') (reads_once t x x to z y reads reads') path

  abbrev LinkEdge : ℕ → Link → Type 0
  LinkEdge to l = (e : Edge) × IsEdgeAt Vs to l e × IsEdgeOf t e

  flow_edge_by : (to from : ℕ) (k : LinkKind) (x : List ℕ) (d u : ℕ) → IsSourceAt t inits x d from → IsTargetAt t x u to → IsFlowOf (spots t) x d u k → LinkEdge to (record { from = from; kind = k })
  flow_edge_by to from (link.Control label) x d u s r h = absurd h
  flow_edge_by to from link.Independent x d u s r h =
      let (v, a, from_is, defines, na, name) = source_defines t inits x d from s in
      let (w, z, to_is, reads, nz) = target_reads t inits prog x u to r in
      (record { to = w; from = v; kind = kind.Independent x }, (to_is, from_is, (x, name, refl)), independent_of x d u v w a z defines reads na nz h)
  flow_edge_by to from (link.Carried l) x d u s r h =
      let (v, a, from_is, defines, na, name) = source_defines t inits x d from s in
      let (w, z, to_is, reads, nz) = target_reads t inits prog x u to r in
      let (loop, loop_is, carried) = carried_of x d u v w a z defines reads na nz l h in
      (record { to = w; from = v; kind = kind.Carried x loop }, (to_is, from_is, (x, loop, name, loop_is, refl)), carried)
  flow_edge_by to from (link.Order v) x d u s r h = absurd h

  -- a flow link is a flow edge of the program
  pub flow_edge : (to : ℕ) (l : Link) → IsFlowLink t inits to l → LinkEdge to l
  flow_edge to l (x, d, u, s, r, h) = flow_edge_by to l.from l.kind x d u s r h

  abbrev EdgeLink : Edge → Type 0
  EdgeLink e = (to : ℕ) × (l : Link) × IsFlowLink t inits to l × IsEdgeAt Vs to l e

  module _ (names : (x : List ℕ) → Contains inits x ↔ IsInitial t x) (x : List ℕ) (from to : Vertex) (a z : Point) (marks : List (Option Tag)) (defines : Defines t x from a) (reads : Reads t x to z)
      (path : IsUndisturbed t.body x a z marks) where
    initial : (y : List ℕ) → from ≡ Init y → IsInitial t y
    initial y is = flows_from_init t x y to a z marks (subst (λ (v : Vertex). Defines t x v a) is defines) reads path

    independent_link_by : around.AvoidsCommon t a z marks → EdgeLink (record { to = to; from = from; kind = kind.Independent x })
    independent_link_by avoids =
        let (d, n, source, from_is, na, name) = defines_source t inits names x from a defines initial in
        let (u, m, target, to_is, nz) = reads_target t inits x to z reads in (
          m,
          record { from = n; kind = link.Independent },
          (x, d, u, source, target, (independent_by_tags t prog d u a z na nz x).1 (marks, path, avoids)),
          (to_is, from_is, (x, name, refl)),
        )

    carried_link_by : (w : Vertex) (l : Tag) (c : Content) → w ≡ Part l c → Says t.body l c → EnclosesBoth (skeleton t.body) a z l → Contains marks (Some l)
        → EdgeLink (record { to = to; from = from; kind = kind.Carried x w })
    carried_link_by w l c is says around there =
        let (d, n, source, from_is, na, name) = defines_source t inits names x from a defines initial in
        let (u, m, target, to_is, nz) = reads_target t inits x to z reads in
        let (q, role) = number_of_says t l c says in (
          m,
          record { from = n; kind = link.Carried q },
          (x, d, u, source, target, (carried_by_tags t prog d u a z na nz q l (part l c, role, refl) x).1 (around, (marks, path, there))),
          (to_is, from_is, (x, w, name, vertex_at_role t inits q l c role ∙ ap (λ (v : Vertex). Some v) (sym is), refl)),
        )

  -- a flow edge of the program is a flow link
  module _ (names : (x : List ℕ) → Contains inits x ↔ IsInitial t x) where
    pub independent_link : (x : List ℕ) (from to : Vertex) → IsIndependent t x from to → EdgeLink (record { to = to; from = from; kind = kind.Independent x })
    independent_link x from to (a, z, marks, (defines, reads, path), avoids) = independent_link_by names x from to a z marks defines reads path avoids

    pub carried_link : (x : List ℕ) (w from to : Vertex) → IsCarried t x w from to → EdgeLink (record { to = to; from = from; kind = kind.Carried x w })
    carried_link x w from to (a, z, marks, l, c, (defines, reads, path), is, says, around, there) = carried_link_by names x from to a z marks defines reads path w l c is says around there
