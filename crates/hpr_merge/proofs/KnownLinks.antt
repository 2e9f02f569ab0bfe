-- The first link that may be added is the least edge that is added, where a slice follows it.
use Rattle.std.proofs.Common.{◌≡◌, ℕ, ◌<◌, ◌↔◌, ◌⊎◌, inl, inr, Bool, Option, Some, None, List}
use Rattle.std.proofs.Common.{[], ◌∷◌, All, length, Contains, slice_get, refl, sym, ap, ◌∙◌, subst, arith}
use Rattle.std.proofs.lemmas.Bool.{cases_lt}
use Rattle.std.proofs.lemmas.List.Elements.{All-contains}
use Rattle.hpr_terms.proofs.Facts.{get_below}
use Rattle.hpr_graph.specs.declared.vertex.Vertex.{Vertex}
use Rattle.hpr_graph.specs.declared.edge.Kind.{Kind}
use Rattle.hpr_graph.specs.declared.edge.Edge.{Edge}
use Rattle.hpr_graph.specs.declared.link.LinkKind.{LinkKind}
use Rattle.hpr_graph.specs.declared.link.LinkKind.TheVariants.{Control, Independent, Carried, Order}
use Rattle.hpr_graph.specs.declared.link.Link.{Link}
use Rattle.hpr_graph.specs.Graphs.{HasVertices, OnThird}
use Rattle.hpr_graph.specs.Numbered.{Numbered, HasEdge, HasLink, IsEdgeAt, IsKindAt, IsNumbered, graph_in, row_of}
use Rattle.hpr_graph.specs.Slices.{Leads, ReachesOne}
use Rattle.hpr_graph.specs.Conflicts.{IsAdded}
use Rattle.hpr_graph.proofs.EdgeList.{edge_link}
use Rattle.hpr_graph.proofs.LinkOrder.{link_cmp}
use Rattle.hpr_graph.proofs.Lists.{some_inj, contains_at, place_of}
use Rattle.hpr_search.specs.Marks.{IsMarked}
use Rattle.hpr_search.specs.Walks.{Walk}
use Rattle.hpr_slice.specs.Neighbours.{Follows}
use Rattle.hpr_slice.specs.Steps.{AreSteps, Chain}
use Rattle.hpr_slice.specs.Vertices.{IsOneOf, MarksExactly}
use Rattle.hpr_slice.proofs.Chains.{chain_leads, leads_chain}
use Rattle.hpr_closure.proofs.WholeSlices.{edge_inside}
use Rattle.hpr_merge.specs.Beside.{Pair, AreBeside, IsBeside, IsLeastAdded, IsLeastLink}
use Rattle.hpr_merge.specs.Candidates.{AreCandidates, AreNewSources, IsSettled, KeepsSteps, MayBeNew}
use Rattle.hpr_merge.specs.Firsts.{AreFirstsFrom, IsFirstFrom}
use Rattle.hpr_merge.specs.Firsts.{Leads as LeadsOn}
use Rattle.hpr_merge.specs.Known.{AreKnownLinks, IsKnown, IsNear}
use Rattle.hpr_merge.proofs.AddedLinks.{comes_first}
use Rattle.hpr_merge.proofs.LeastLinks.{pair_of}

-- the marked vertices are closed, and have the sources of new links
pub record IsFar (m k : Numbered) (near far : List Bool) : Type 0 where
  pub new : (to : ℕ) (l : Link) → IsMarked near to → HasLink m to l → Follows l.kind → HasLink k to l ⊎ IsMarked far l.from
  pub closed : (to : ℕ) (l : Link) → IsMarked far to → HasLink m to l → Follows l.kind → IsMarked far l.from

follows_leads : (vs : List Vertex) (k : LinkKind) (v : Vertex) (e : Kind) → IsKindAt vs k v e → Follows k → Leads e
follows_leads vs (Control label) v e is t = subst Leads (sym is) tt
follows_leads vs Independent v e (x, d, is) t = subst Leads (sym is) tt
follows_leads vs (Carried w) v e (x, y, d, at, is) t = subst Leads (sym is) tt
follows_leads vs (Order u) v e is t = absurd cc

follows_settled : (far : List Bool) (from : ℕ) (k : LinkKind) → Follows k → IsSettled far from k
follows_settled far from (Control label) t = tt
follows_settled far from Independent t = tt
follows_settled far from (Carried w) t = tt
follows_settled far from (Order u) t = absurd cc

-- the marks of what reaches some vertices
module _ (g : Numbered) (kg : IsNumbered g) (ss : List ℕ) (marks : List Bool) (exact : MarksExactly g (ReachesOne (graph_in g) (IsOneOf g ss)) marks) where
  marked_one : (x : ℕ) (w : Vertex) → slice_get g.vertices x ≡ Some w → Contains ss x → IsMarked marks x
  marked_one x w at has = (exact.exact x w at).1 (w, [], (x, has, at), refl)

  marked_back : (to : ℕ) (l : Link) → IsMarked marks to → HasLink g to l → Follows l.kind → IsMarked marks l.from
  marked_back to l marked has follows =
      let (e, is) = kg.links to l has in
      let (s, es, one, leads) = (exact.exact to e.to is.0).0 marked in
      (exact.exact l.from e.from is.1).1 (s, e ∷ es, one, ((to, l, has, is), follows_leads g.vertices l.kind e.from e.kind is.2 follows, refl, leads))

pub near_marks : (k : Numbered) → IsNumbered k → (ns : List ℕ) (near : List Bool) → All (λ n. n < length k.vertices) ns
    → MarksExactly k (ReachesOne (graph_in k) (IsOneOf k ns)) near → IsNear k ns near
near_marks k kk ns near within exact = record {
  points = λ n has. (let (w, at) = get_below k.vertices n (All-contains (λ x. x < length k.vertices) ns n within has) in marked_one k kk ns near exact
      n w at has);
  closed = marked_back k kk ns near exact;
}

pub far_marks : (m k : Numbered) → IsNumbered m → (near far : List Bool) (ss : List ℕ) → AreNewSources m k near ss
    → MarksExactly m (ReachesOne (graph_in m) (IsOneOf m ss)) far → IsFar m k near far
far_marks m k km near far ss sources exact = record {
  new = λ to l marked has follows. elim (sources.all to l marked has follows) [
    | inl kept ↦ inl kept
    | inr listed ↦ inr (let (e, is) = km.links to l has in marked_one m km ss far exact l.from e.from is.1 listed)
  ];
  closed = marked_back m km ss far exact;
}

-- chains of steps to a vertex are what reaches it
module _ (g : Numbered) (kg : IsNumbered g) (steps : List (ℕ × ℕ)) (are : AreSteps g steps) (n : ℕ) (v : Vertex)
    (at_v : slice_get g.vertices n ≡ Some v) where
  abbrev Reaches : Vertex → Type 0
  Reaches = ReachesOne (graph_in g) (λ s. s ≡ v)

  reach_chain : (x : ℕ) (w : Vertex) → slice_get g.vertices x ≡ Some w → Reaches w → (via : List ℕ) × Chain steps x via n
  reach_chain x w at_w (s, es, is, leads) =
      let (y, via, at_y, chain) = leads_chain g kg steps are x es w s leads at_w in
      let same : y ≡ n = kg.once y n v (at_y ∙ ap Some is) at_v in
      (via, subst (λ (z : ℕ). Chain steps x via z) same chain)

  chain_reach : (x : ℕ) (w : Vertex) (via : List ℕ) → slice_get g.vertices x ≡ Some w → Chain steps x via n → Reaches w
  chain_reach x w via at_w chain = let (es, leads) = chain_leads g kg steps are x via n w v chain at_w at_v in (v, es, refl, leads)

module _ (m k : Numbered) (near far : List Bool) (ns : List ℕ) (wide narrow : List (ℕ × ℕ)) (wide_are : AreSteps m wide)
    (narrow_are : AreSteps k narrow) (is_near : IsNear k ns near) (keeps : KeepsSteps m k near) (is_far : IsFar m k near far)
    (n : ℕ) (one : Contains ns n) where
  own_near : (x : ℕ) (via : List ℕ) → Chain narrow x via n → IsMarked near x
  own_near x [] chain = subst (IsMarked near) (sym chain) (is_near.points n one)
  own_near x (c ∷ via) chain =
      let (l, has, follows, from) = (narrow_are x c).0 chain.0 in
      subst (IsMarked near) from (is_near.closed c l (own_near c via chain.1) has follows)

  own_grown : (x : ℕ) (via : List ℕ) → Chain narrow x via n → Chain wide x via n
  own_grown x [] chain = chain
  own_grown x (c ∷ via) chain =
      let (l, has, follows, from) = (narrow_are x c).0 chain.0 in
      ((wide_are x c).1 (l, keeps c (own_near c via chain.1) l has follows, follows, from), own_grown c via chain.1)

  abbrev Grown : ℕ → Type 0
  Grown x = IsMarked far x ⊎ ((via : List ℕ) × Chain narrow x via n)

  grown_own : (x : ℕ) (via : List ℕ) → Chain wide x via n → Grown x
  grown_own x [] chain = inr ([], chain)
  grown_own x (c ∷ via) chain =
      let (l, has, follows, from) = (wide_are x c).0 chain.0 in
      elim (grown_own c via chain.1) [
        | inl marked ↦ inl (subst (IsMarked far) from (is_far.closed c l marked has follows))
        | inr (way, own) ↦ elim (is_far.new c l (own_near c way own) has follows) [
          | inl kept ↦ inr (c ∷ way, ((narrow_are x c).1 (l, kept, follows, from), own))
          | inr marked ↦ inl (subst (IsMarked far) from marked)
        ]
      ]

module _ (m k : Numbered) (km : IsNumbered m) (kk : IsNumbered k) (b : AreBeside link_cmp m k) (near far : List Bool) (ns : List ℕ)
    (wide narrow : List (ℕ × ℕ)) (wide_are : AreSteps m wide) (narrow_are : AreSteps k narrow)
    (is_near : IsNear k ns near) (keeps : KeepsSteps m k near) (is_far : IsFar m k near far) (n : ℕ) (one : Contains ns n) (v : Vertex)
    (at_v : slice_get m.vertices n ≡ Some v) where
  abbrev Wide : Vertex → Type 0
  Wide = ReachesOne (graph_in m) (λ s. s ≡ v)

  abbrev Narrow : Vertex → Type 0
  Narrow = ReachesOne (graph_in k) (λ s. s ≡ v)

  there : (x : ℕ) (w : Vertex) → slice_get m.vertices x ≡ Some w → slice_get k.vertices x ≡ Some w
  there x w at = ap (λ (vs : List Vertex). slice_get vs x) b.vertices ∙ at

  there_edge : (to : ℕ) (l : Link) (e : Edge) → IsEdgeAt m.vertices to l e → IsEdgeAt k.vertices to l e
  there_edge to l e is = subst (λ (vs : List Vertex). IsEdgeAt vs to l e) (sym b.vertices) is

  -- a vertex that isn't marked and reaches the point in one graph does so in the other
  kept : (x : ℕ) (w : Vertex) → slice_get m.vertices x ≡ Some w → ¬ IsMarked far x → Wide w → Narrow w
  kept x w at unmarked reaches =
      let (via, chain) = reach_chain m km wide wide_are n v at_v x w at reaches in
      elim (grown_own m k near far ns wide narrow wide_are narrow_are is_near keeps is_far n one x via chain) [
        | inl marked ↦ absurd (unmarked marked)
        | inr (way, own) ↦ chain_reach k kk narrow narrow_are n v (there n v at_v) x w way (there x w at) own
      ]

  -- a settled link of both graphs has all its vertices in the slice
  settled_inside : (to : ℕ) (l : Link) (e : Edge) (kind : LinkKind) → l.kind ≡ kind → IsEdgeAt m.vertices to l e → (graph_in k).edge e
      → IsSettled far l.from kind → Wide e.from → OnThird Wide e.kind → Narrow e.to → HasVertices Narrow e
  settled_inside to l e (Order u) is_kind (at_to, at_from, is) has settled from third reaches =
      let (w, at_w, is_order) = subst (λ (x : LinkKind). IsKindAt m.vertices x e.from e.kind) is_kind is in (
        reaches,
        kept l.from e.from at_from settled.0 from,
        subst (OnThird Narrow) (sym is_order)
            (kept u w at_w settled.1 (subst (OnThird Wide) is_order third)),
      )
  settled_inside to l e (Control label) is_kind (at_to, at_from, is) has settled from third reaches =
      edge_inside (graph_in k) b.own_loops (λ s. s ≡ v) e has
      (follows_leads m.vertices (Control label) e.from e.kind (subst (λ (x : LinkKind). IsKindAt m.vertices x e.from e.kind) is_kind is) refl) reaches
  settled_inside to l e Independent is_kind (at_to, at_from, is) has settled from third reaches =
      edge_inside (graph_in k) b.own_loops (λ s. s ≡ v) e has
      (follows_leads m.vertices Independent e.from e.kind (subst (λ (x : LinkKind). IsKindAt m.vertices x e.from e.kind) is_kind is) refl) reaches
  settled_inside to l e (Carried w) is_kind (at_to, at_from, is) has settled from third reaches =
      edge_inside (graph_in k) b.own_loops (λ s. s ≡ v) e has
      (follows_leads m.vertices (Carried w) e.from e.kind (subst (λ (x : LinkKind). IsKindAt m.vertices x e.from e.kind) is_kind is) refl) reaches

  -- what is added may be added, and its target is near
  may_be_new : (to : ℕ) (l : Link) (e : Edge) → IsEdgeAt m.vertices to l e → IsAdded (graph_in m) (graph_in k) v e → MayBeNew (row_of k to) far l
  may_be_new to l e is ((has_m, (to_m, from_m, third_m)), new, (at_k, reaches)) (has, settled) =
      let has_k : HasEdge k e = (to, l, has, there_edge to l e is) in
      new (has_k, settled_inside to l e l.kind refl is has_k settled from_m third_m reaches)

  target_leads : (to : ℕ) (l : Link) (e : Edge) → IsEdgeAt m.vertices to l e → IsAdded (graph_in m) (graph_in k) v e → (via : List ℕ) × Chain narrow to via n
  target_leads to l e is (in_m, new, (at_k, reaches)) = reach_chain k kk narrow narrow_are n v (there n v at_v) to e.to (there to e.to is.0) reaches

  -- a new link that a slice follows, into a vertex that leads to the point, is added
  followed_added : (to : ℕ) (l : Link) (e : Edge) (via : List ℕ) → HasLink m to l → IsEdgeAt m.vertices to l e → Follows l.kind
      → MayBeNew (row_of k to) far l → Chain narrow to via n → IsAdded (graph_in m) (graph_in k) v e
  followed_added to l e via has is follows may chain =
      let is_k = there_edge to l e is in
      let has_m : HasEdge m e = (to, l, has, is) in
      let grown = own_grown m k near far ns wide narrow wide_are narrow_are is_near keeps is_far n one to via chain in (
        (
          has_m,
          edge_inside (graph_in m) b.loops (λ s. s ≡ v) e has_m (follows_leads m.vertices l.kind e.from e.kind is.2 follows)
              (chain_reach m km wide wide_are n v at_v to e.to via is.0 grown),
        ),
        λ (has_k, inside). may (edge_link k kk.once to l e is_k has_k, follows_settled far l.from l.kind follows),
        (contains_at k.vertices to e.to is_k.0, chain_reach k kk narrow narrow_are n v (there n v at_v) to e.to via is_k.0 chain),
      )

  module _ (cs : List (ℕ × Link)) (steps : ℕ → List ℕ)
      (walks : (x via-to : ℕ) → LeadsOn steps x via-to ↔ ((via : List ℕ) × Chain narrow x via via-to)) (are : AreCandidates m k near far cs) where
    -- a candidate stands at the target of what is added
    candidate_of : (to : ℕ) (l : Link) (e : Edge) → HasLink m to l → IsEdgeAt m.vertices to l e → IsAdded (graph_in m) (graph_in k) v e
        → (f : Link) × Contains cs (to, f) × LeadsOn steps to n
    candidate_of to l e has is adds =
        let (via, chain) = target_leads to l e is adds in
        let near_to = own_near m k near far ns wide narrow wide_are narrow_are is_near keeps is_far n one to via chain in
        let (f, stands) = are.all to l near_to has (may_be_new to l e is adds) in
        (f, stands, (walks to n).1 (via, chain))

    none_known : IsFirstFrom steps cs n None → IsLeastAdded (graph_in m) (graph_in k) v None
    none_known none e adds =
        let ((to, l, has, is), inside) = adds.0 in
        let (f, stands, leads) = candidate_of to l e has is adds in
        none (to, f) stands leads

    -- no candidate before it stands at a lesser target
    not_before : (i : ℕ) (c : ℕ × Link) → slice_get cs i ≡ Some c → ((j : ℕ) (d : ℕ × Link) → j < i → slice_get cs j ≡ Some d → ¬ LeadsOn steps d.0 n)
        → (t : ℕ) (f : Link) → t < c.0 → Contains cs (t, f) → LeadsOn steps t n → ⊥
    not_before i c at before t f less stands leads =
        let (j, at_j) = place_of cs (t, f) stands in
        elim (cases_lt j i) [
          | inl earlier ↦ before j (t, f) earlier at_j leads
          | inr not_earlier ↦ elim (cases_lt i j) [
            | inl later ↦ let more = are.ascend i j c (t, f) later at at_j in omega (arith, more, less)
            | inr not_later ↦
                let place : j ≡ i = omega (arith, not_earlier, not_later) in
                let same : (t, f) ≡ c = some_inj (t, f) c (sym at_j ∙ ap (slice_get cs) place ∙ at) in
                let target : t ≡ c.0 = ap (λ (d : ℕ × Link). d.0) same in omega (arith, target, less)
          ]
        ]

    first_known : (to : ℕ) (l : Link) → Follows l.kind → IsFirstFrom steps cs n (Some (to, l)) → IsLeastLink m k v (Some (to, l))
    first_known to l follows (leads, (i, at_i, before)) =
        let (near_to, (may, (p, at_p, first))) = are.only (to, l) (contains_at cs i (to, l) at_i) in
        let has : HasLink m to l = contains_at (row_of m to) p l at_p in
        let (via, chain) = (walks to n).0 leads in (
          km.links to l has,
          λ e is. (
            followed_added to l e via has is follows may chain,
            λ f adds less.
                (let ((t, l', has', is'), inside) = adds.0 in
                elim (comes_first m km b.order b.rows to p t l l' e f at_p is has' is' less) [
                  | inl earlier ↦ (let (g, stands, leads') = candidate_of t l' f has' is' adds in not_before i (to, l) at_i before t g earlier stands leads')
                  | inr (same, (q, left, at_q)) ↦ first q l' left at_q (subst (λ (x : ℕ). MayBeNew (row_of k x) far l') same (may_be_new t l' f is' adds))
                ]),
          ),
        )

    pub known_is_least : (o : Option (ℕ × Link)) → IsKnown o → IsFirstFrom steps cs n o → IsLeastLink m k v o
    known_is_least None known first = none_known first
    known_is_least (Some (to, l)) known first = first_known to l known first

-- walks along rows are chains of steps
module _ (steps : ℕ → List ℕ) (narrow : List (ℕ × ℕ)) (same : (from to : ℕ) → Contains (steps from) to ↔ Contains narrow (from, to)) where
  walk_chain : (x : ℕ) (via : List ℕ) (y : ℕ) → Walk steps x via y → Chain narrow x via y
  walk_chain x [] y walk = walk
  walk_chain x (c ∷ via) y walk = ((same x c).0 walk.0, walk_chain c via y walk.1)

  chain_walk : (x : ℕ) (via : List ℕ) (y : ℕ) → Chain narrow x via y → Walk steps x via y
  chain_walk x [] y chain = chain
  chain_walk x (c ∷ via) y chain = ((same x c).1 chain.0, chain_walk c via y chain.1)

  pub walks_are_chains : (x y : ℕ) → LeadsOn steps x y ↔ ((via : List ℕ) × Chain narrow x via y)
  walks_are_chains x y = (λ (via, walk). (via, walk_chain x via y walk), λ (via, chain). (via, chain_walk x via y chain))

-- what a search from the candidates says of the two graphs
pub known_of : (m k : Numbered) (wide narrow : List (ℕ × ℕ)) (p : Pair) → IsBeside link_cmp m k wide narrow → pair_of m k ≡ p
    → (ns : List ℕ) (near far : List Bool) → IsNear k ns near → KeepsSteps m k near → IsFar m k near far
    → (cs : List (ℕ × Link)) (steps : ℕ → List ℕ) (os : List (Option (ℕ × Link)))
    → ((from to : ℕ) → Contains (steps from) to ↔ Contains narrow (from, to)) → AreCandidates m k near far cs → length os ≡ length m.vertices
    → AreFirstsFrom steps cs os → AreKnownLinks p ns os
known_of m k wide narrow p b is ns near far is_near keeps is_far cs steps os same are count firsts =
    subst (λ (s : Pair). AreKnownLinks s ns os) is (record {
      count = count;
      each = λ n o v has at_o at_v known.
          known_is_least m k b.merged b.own b.beside near far ns wide narrow b.wide_are b.narrow_are is_near keeps is_far n has v at_v cs steps
          (walks_are_chains steps narrow same) are o known (firsts n o at_o);
    })
