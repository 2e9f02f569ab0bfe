-- The links that are added to a slice are the edges that are added to it, in their order.
use Rattle.std.proofs.Common.{◌≡◌, ℕ, zero, suc, ◌+◌, ◌<◌, ◌⊎◌, inl, inr, Bool, Option, Some, None, List, [], ◌∷◌, ◌++◌, length, map, slice_get, sym, ap, ◌∙◌, subst, arith}
use Rattle.std.specs.Ordering.{ordering_then}
use Rattle.std.specs.declared.cmp.Ordering.TheVariants.{Less}
use Rattle.std.proofs.lemmas.Bool.{cases_lt}
use Rattle.hpr_terms.proofs.Facts.{get_in_map}
use Rattle.hpr_graph.specs.declared.vertex.Vertex.{Vertex}
use Rattle.hpr_graph.specs.declared.edge.Edge.{Edge}
use Rattle.hpr_graph.specs.declared.link.Link.{Link}
use Rattle.hpr_graph.specs.Numbered.{Numbered, HasLink, IsEdgeAt, IsNumbered, graph_in, row_items, row_of}
use Rattle.hpr_graph.specs.Order.{vertex_cmp, kind_cmp, edge_cmp}
use Rattle.hpr_graph.specs.InOrder.{Ascends, RowsAscend, edge_of, edges_from, edges_of}
use Rattle.hpr_graph.specs.Slices.{ReachesOne}
use Rattle.hpr_graph.specs.Conflicts.{IsAdded, IsLeast}
use Rattle.hpr_graph.proofs.EdgeList.{edge_link}
use Rattle.hpr_graph.proofs.InOrder.{first_less, edge_is, edges_in_order}
use Rattle.hpr_graph.proofs.Laws.{one_edge}
use Rattle.hpr_graph.proofs.LinkOrder.{link_cmp}
use Rattle.hpr_slice.specs.Vertices.{IsOneOf, MarksExactly}
use Rattle.hpr_graph.proofs.Lists.{some_inj, contains_at, place_of, get_longer}
use Rattle.hpr_affected.proofs.SliceMarks.{third_marked, marked_third, marks_at}
use Rattle.hpr_merge.specs.Added.{IsAddedLink, IsFirstAdded}
use Rattle.hpr_merge.specs.Beside.{AreBeside, IsLeastAdded, IsLeastLink}
use Rattle.hpr_graph.proofs.VertexOrder.{edge_never}

-- the places of edges in the list of all edges row by row
module _ {X : Type 0} where
  at_back : (xs ys : List X) (i : ℕ) (y : X) → slice_get ys i ≡ Some y → slice_get (xs ++ ys) (length xs + i) ≡ Some y
  at_back [] ys i y h = let same : i ≡ 0 + i = omega arith in subst (λ (n : ℕ). slice_get ys n ≡ Some y) same h
  at_back (x ∷ xs) ys i y h = let same : suc (length xs + i) ≡ suc (length xs) + i = omega arith in subst (λ (n : ℕ). slice_get (x ∷ (xs ++ ys)) n ≡ Some y) same (at_back xs ys i y h)

row_place : (vs : List Vertex) (n : ℕ) (rows : List (List Link)) (r : ℕ) → (o : ℕ) × ((i : ℕ) (l : Link) → slice_get (row_items (slice_get rows r)) i ≡ Some l → slice_get (edges_from vs n rows) (o + i) ≡ Some (edge_of vs (n + r) l))
row_place vs n [] r = (0, λ i l h. absurd cc)
row_place vs n (row ∷ rows) zero = (
  0,
  λ i l h.
      (let same : i ≡ 0 + i = omega arith in
      let none : n ≡ n + 0 = omega arith in
      subst (λ (k : ℕ). slice_get (map (edge_of vs n) row ++ edges_from vs (n + 1) rows) k ≡ Some (edge_of vs (n + 0) l)) same
      (subst (λ (k : ℕ). slice_get (map (edge_of vs n) row ++ edges_from vs (n + 1) rows) i ≡ Some (edge_of vs k l)) none
      (get_longer (map (edge_of vs n) row) (edges_from vs (n + 1) rows) i (edge_of vs n l) (get_in_map (edge_of vs n) row i l h)))),
)
row_place vs n (row ∷ rows) (suc r) =
    let (o, place) = row_place vs (n + 1) rows r in
    let before = length (map (edge_of vs n) row) in (
      before + o,
      λ i l h.
          (let same : before + (o + i) ≡ (before + o) + i = omega arith in
          let one : (n + 1) + r ≡ n + suc r = omega arith in
          subst (λ (k : ℕ). slice_get (map (edge_of vs n) row ++ edges_from vs (n + 1) rows) k ≡ Some (edge_of vs (n + suc r) l)) same
          (subst (λ (k : ℕ). slice_get (map (edge_of vs n) row ++ edges_from vs (n + 1) rows) (before + (o + i)) ≡ Some (edge_of vs k l)) one
          (at_back (map (edge_of vs n) row) (edges_from vs (n + 1) rows) (o + i) (edge_of vs ((n + 1) + r) l) (place i l h)))),
    )

-- edges by their links in a graph that is in order
module _ (m : Numbered) (km : IsNumbered m) (up : Ascends vertex_cmp m.vertices) (rows : RowsAscend link_cmp m) where
  in_row : (to i j : ℕ) (l l' : Link) (e f : Edge) → i < j → slice_get (row_of m to) i ≡ Some l → slice_get (row_of m to) j ≡ Some l' → IsEdgeAt m.vertices to l e → IsEdgeAt m.vertices to l' f → edge_cmp e f ≡ Less
  in_row to i j l l' e f less at at' is is' =
      let (o, place) = row_place m.vertices 0 m.links to in
      let none : 0 + to ≡ to = omega arith in
      let e_at : slice_get (edges_of m) (o + i) ≡ Some e = place i l at ∙ ap (λ (n : ℕ). Some (edge_of m.vertices n l)) none ∙ ap Some (sym (edge_is m.vertices to l e is)) in
      let f_at : slice_get (edges_of m) (o + j) ≡ Some f = place j l' at' ∙ ap (λ (n : ℕ). Some (edge_of m.vertices n l')) none ∙ ap Some (sym (edge_is m.vertices to l' f is')) in
      (edges_in_order m km up rows).0 (o + i) (o + j) e f (omega (arith, less)) e_at f_at

  by_target : (to t : ℕ) (l l' : Link) (e f : Edge) → to < t → IsEdgeAt m.vertices to l e → IsEdgeAt m.vertices t l' f → edge_cmp e f ≡ Less
  by_target to t l l' e f less is is' =
      first_less (vertex_cmp e.to f.to) (ordering_then (vertex_cmp e.from f.from) (kind_cmp e.kind f.kind)) (up to t e.to f.to less is.0 is'.0)

  -- an edge that comes before another has a link before its link
  pub comes_first : (to i t : ℕ) (l l' : Link) (e f : Edge) → slice_get (row_of m to) i ≡ Some l → IsEdgeAt m.vertices to l e → HasLink m t l' → IsEdgeAt m.vertices t l' f → edge_cmp f e ≡ Less
      → (t < to) ⊎ ((t ≡ to) × ((j : ℕ) × (j < i) × (slice_get (row_of m to) j ≡ Some l')))
  comes_first to i t l l' e f at is has is' less = elim (cases_lt t to) [
    | inl before ↦ inl before
    | inr after ↦ elim (cases_lt to t) [
      | inl later ↦ absurd (edge_never e f (by_target to t l l' e f later is is') less)
      | inr here ↦
          (let same : t ≡ to = omega (arith, after, here) in
          let has_here : HasLink m to l' = subst (λ (n : ℕ). HasLink m n l') same has in
          let is_here : IsEdgeAt m.vertices to l' f = subst (λ (n : ℕ). IsEdgeAt m.vertices n l' f) same is' in
          let (j, at') = place_of (row_of m to) l' has_here in
          inr (
            same,
            elim (cases_lt j i) [
              | inl first ↦ (j, first, at')
              | inr not_first ↦ elim (cases_lt i j) [
                | inl behind ↦ absurd (edge_never e f (in_row to i j l l' e f behind at at' is is_here) less)
                | inr not_behind ↦ absurd
                    (let place : j ≡ i = omega (arith, not_first, not_behind) in
                    let link : l' ≡ l = some_inj l' l (sym at' ∙ ap (slice_get (row_of m to)) place ∙ at) in
                    let edge : f ≡ e = one_edge m.vertices to l f e (subst (λ (x : Link). IsEdgeAt m.vertices to x f) link is_here) is in
                    let itself : edge_cmp e e ≡ Less = subst (λ (x : Edge). edge_cmp x e ≡ Less) edge less in
                    edge_never e e itself itself)
              ]
            ],
          ))
    ]
  ]

-- a graph beside another, with the marks of the slices at one vertex
module _ (m k : Numbered) (km : IsNumbered m) (kk : IsNumbered k) (b : AreBeside link_cmp m k) (v : Vertex) (grown own : List Bool) (mg : MarksExactly m (ReachesOne (graph_in m) (λ s. s ≡ v)) grown) (mk : MarksExactly k (ReachesOne (graph_in k) (λ s. s ≡ v)) own) where
  abbrev Wide : Vertex → Type 0
  Wide = ReachesOne (graph_in m) (λ s. s ≡ v)

  abbrev Narrow : Vertex → Type 0
  Narrow = ReachesOne (graph_in k) (λ s. s ≡ v)

  there : (to : ℕ) (l : Link) (e : Edge) → IsEdgeAt m.vertices to l e → IsEdgeAt k.vertices to l e
  there to l e is = subst (λ (vs : List Vertex). IsEdgeAt vs to l e) (sym b.vertices) is

  added_edge : (to : ℕ) (l : Link) (e : Edge) → HasLink m to l → IsEdgeAt m.vertices to l e → IsAddedLink k grown own to l → IsAdded (graph_in m) (graph_in k) v e
  added_edge to l e has is (in_wide, in_narrow, (inside, new)) =
      let is_k = there to l e is in (
        ((to, l, has, is), ((mg.exact to e.to is.0).0 in_wide, (mg.exact l.from e.from is.1).0 inside.0, marked_third m Wide grown mg l.kind e.from e.kind is.2 inside.1)),
        λ (has_k, (to_k, from_k, third_k)). new (edge_link k kk.once to l e is_k has_k, ((mk.exact l.from e.from is_k.1).1 from_k, third_marked k Narrow own mk l.kind e.from e.kind is_k.2 third_k)),
        (contains_at k.vertices to e.to is_k.0, (mk.exact to e.to is_k.0).0 in_narrow),
      )

  added_link : (to : ℕ) (l : Link) (e : Edge) → IsEdgeAt m.vertices to l e → IsAdded (graph_in m) (graph_in k) v e → IsAddedLink k grown own to l
  added_link to l e is ((has_m, (to_m, from_m, third_m)), new, (at_k, reaches)) =
      let is_k = there to l e is in (
        (mg.exact to e.to is.0).1 to_m,
        (mk.exact to e.to is_k.0).1 reaches,
        (
          ((mg.exact l.from e.from is.1).1 from_m, third_marked m Wide grown mg l.kind e.from e.kind is.2 third_m),
          λ (has, inside). new ((to, l, has, is_k), (reaches, (mk.exact l.from e.from is_k.1).0 inside.0, marked_third k Narrow own mk l.kind e.from e.kind is_k.2 inside.1)),
        ),
      )

  -- where no link is added, no edge is
  none_added : IsFirstAdded m k grown own None → IsLeastAdded (graph_in m) (graph_in k) v None
  none_added none e (((to, l, has, is), inside), new, own_to) = none to l has (added_link to l e is (((to, l, has, is), inside), new, own_to))

  -- the first link that is added is the least edge
  least_added : (to : ℕ) (l : Link) (e : Edge) → IsFirstAdded m k grown own (Some (to, l)) → IsEdgeAt m.vertices to l e → IsLeast (IsAdded (graph_in m) (graph_in k) v) e
  least_added to l e ((adds, (i, at, first)), before) is = (
    added_edge to l e (contains_at (row_of m to) i l at) is adds,
    λ f (((t, l', has, is'), inside), new, own_to) less.
        (let adds' = added_link t l' f is' (((t, l', has, is'), inside), new, own_to) in
        elim (comes_first m km b.order b.rows to i t l l' e f at is has is' less) [
          | inl earlier ↦ before t l' earlier has adds'
          | inr (same, (j, left, at')) ↦ first j l' left at' (subst (λ (n : ℕ). IsAddedLink k grown own n l') same adds')
        ]),
  )

abbrev MarksOne : Numbered → ℕ → List Bool → Type 0
MarksOne g at marks = MarksExactly g (ReachesOne (graph_in g) (IsOneOf g (at ∷ []))) marks

-- what a search for the first added link says of two graphs
pub least_link : (m k : Numbered) → IsNumbered m → IsNumbered k → AreBeside link_cmp m k → (at : ℕ) (grown own : List Bool) → MarksOne m at grown → MarksOne k at own → (o : Option (ℕ × Link)) → IsFirstAdded m k grown own o
    → (v : Vertex) → slice_get m.vertices at ≡ Some v → IsLeastLink m k v o
least_link m k km kk b at grown own mg mk None none v at_v =
    none_added m k km kk b v grown own (marks_at m at v grown at_v mg) (marks_at k at v own (ap (λ (vs : List Vertex). slice_get vs at) b.vertices ∙ at_v) mk) none
least_link m k km kk b at grown own mg mk (Some (to, l)) first v at_v = (
  (let ((adds, (i, at_i, none)), before) = first in km.links to l (contains_at (row_of m to) i l at_i)),
  λ e is. least_added m k km kk b v grown own (marks_at m at v grown at_v mg) (marks_at k at v own (ap (λ (vs : List Vertex). slice_get vs at) b.vertices ∙ at_v) mk) to l e first is,
)
