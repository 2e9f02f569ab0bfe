-- The edges of a graph in order are those of its rows, one after another. A graph has one order.
use Rattle.std.proofs.Common.{◌≡◌, ℕ, zero, suc, ◌+◌, ◌<◌, ◌⊎◌, inl, inr, Some, unwrap_or, Option, List, [], ◌∷◌, ◌++◌, length, map, Contains, slice_get, sum_by, refl, sym, ap, ap₂, ◌∙◌, subst, arith, length-append}
use Rattle.std.specs.declared.cmp.Ordering.{Ordering}
use Rattle.std.specs.declared.cmp.Ordering.TheVariants.{Less, Equal, Greater}
use Rattle.std.specs.Cmp.{tied_itself}
use Rattle.std.specs.Cmp.Lexicographic.{nat_list_cmp_total}
use Rattle.std.specs.FinMap.{nat_cmp-IsAntisymmetric}
use Rattle.std.specs.Ordering.{nat_cmp, ordering_then}
use Rattle.std.proofs.lemmas.Cmp.{ranked}
use Rattle.std.proofs.lemmas.Option.{get_or_from_slice_get}
use Rattle.std.proofs.lemmas.List.{length-map}
use Rattle.std.proofs.lemmas.List.Sums.{sum_by-cons}
use Rattle.std.proofs.lemmas.List.Elements.{Contains-append_left, Contains-append_right, Contains-append_cases}
use Rattle.hpr_terms.proofs.Facts.{in_map, map_in}
use Rattle.hpr_graph.specs.declared.vertex.Vertex.{Vertex}
use Rattle.hpr_graph.specs.declared.vertex.Vertex.TheVariants.{Entry}
use Rattle.hpr_graph.specs.declared.edge.Kind.{Kind}
use Rattle.hpr_graph.specs.declared.edge.Kind.TheVariants as kind
use Rattle.hpr_graph.specs.declared.edge.Edge.{Edge}
use Rattle.hpr_graph.specs.declared.link.LinkKind.{LinkKind}
use Rattle.hpr_graph.specs.declared.link.LinkKind.TheVariants.{Control, Independent, Carried, Order}
use Rattle.hpr_graph.specs.declared.link.Link.{Link}
use Rattle.hpr_graph.specs.contracts.link.LinkKindOrd.TheImpl as kinds
use Rattle.hpr_graph.specs.Graphs.{Graph, Same, name_of}
use Rattle.hpr_graph.specs.Numbered.{Numbered, IsKindAt, IsEdgeAt, IsNumbered, graph_in, link_count, row_items}
use Rattle.hpr_graph.specs.Order.{vertex_cmp, kind_cmp, edge_cmp}
use Rattle.hpr_graph.specs.InOrder.{Ascends, AreVerticesOf, AreEdgesOf, RowsAscend, vertex_at, name_at, kind_of, edge_of, edges_from, edges_of}
use Rattle.hpr_graph.proofs.Ascending.{Rises, rises, ascends, rises_append, rises_map, ascending_one}
use Rattle.hpr_graph.proofs.LinkOrder.{link_cmp}
use Rattle.hpr_graph.proofs.Lists.{some_inj, in_none}
use Rattle.hpr_graph.proofs.VertexOrder.{vertex_never, vertex_itself, edge_never}

-- a graph has one order of its vertices and one of its edges
pub vertices_agree : (g : Graph) (vs us : List Vertex) → AreVerticesOf g vs → AreVerticesOf g us → vs ≡ us
vertices_agree g vs us a b = ascending_one vertex_cmp vertex_never vs us a.0 b.0 (λ v. (λ h. (b.1 v).1 ((a.1 v).0 h), λ h. (a.1 v).1 ((b.1 v).0 h)))

pub edges_agree : (g : Graph) (es fs : List Edge) → AreEdgesOf g es → AreEdgesOf g fs → es ≡ fs
edges_agree g es fs a b = ascending_one edge_cmp edge_never es fs a.0 b.0 (λ e. (λ h. (b.1 e).1 ((a.1 e).0 h), λ h. (a.1 e).1 ((b.1 e).0 h)))

-- the same graphs have the same vertices and edges in order
pub vertices_of_same : (g h : Graph) (vs : List Vertex) → Same g h → AreVerticesOf g vs → AreVerticesOf h vs
vertices_of_same g h vs same a = (a.0, λ v. (λ x. (same.0 v).0 ((a.1 v).0 x), λ x. (a.1 v).1 ((same.0 v).1 x)))

pub edges_of_same : (g h : Graph) (es : List Edge) → Same g h → AreEdgesOf g es → AreEdgesOf h es
edges_of_same g h es same a = (a.0, λ e. (λ x. (same.1 e).0 ((a.1 e).0 x), λ x. (a.1 e).1 ((same.1 e).1 x)))

-- the edge of a link
module _ (vs : List Vertex) where
  pub vertex_is : (i : ℕ) (v : Vertex) → slice_get vs i ≡ Some v → vertex_at vs i ≡ v
  vertex_is i v at = get_or_from_slice_get vs i v Entry at

  name_is : (from : ℕ) (v : Vertex) (x : List ℕ) → slice_get vs from ≡ Some v → name_of v ≡ Some x → name_at vs from ≡ x
  name_is from v x at d = ap (λ (w : Vertex). unwrap_or (name_of w) []) (vertex_is from v at) ∙ ap (λ (o : Option (List ℕ)). unwrap_or o []) d

  kind_is : (k : LinkKind) (from : ℕ) (v : Vertex) (e : Kind) → slice_get vs from ≡ Some v → IsKindAt vs k v e → e ≡ kind_of vs k from
  kind_is (Control label) from v e at h = h
  kind_is Independent from v e at (x, d, is) = is ∙ ap (λ (z : List ℕ). kind.Independent z) (sym (name_is from v x at d))
  kind_is (Carried w) from v e at (x, t, d, there, is) =
      is ∙ ap₂ (λ (z : List ℕ) (u : Vertex). kind.Carried z u) (sym (name_is from v x at d)) (sym (vertex_is w t there))
  kind_is (Order u) from v e at (t, there, is) = is ∙ ap (λ (z : Vertex). kind.Order z) (sym (vertex_is u t there))

  pub edge_is : (to : ℕ) (l : Link) (e : Edge) → IsEdgeAt vs to l e → e ≡ edge_of vs to l
  edge_is to l e h =
      let a : e.to ≡ vertex_at vs to = sym (vertex_is to e.to h.0) in
      let b : e.from ≡ vertex_at vs l.from = sym (vertex_is l.from e.from h.1) in
      let c : e.kind ≡ kind_of vs l.kind l.from = kind_is l.kind l.from e.from e.kind h.1 h.2 in
      (λ i. record { to = a i; from = b i; kind = c i })

  pub edge_there : (to : ℕ) (l : Link) (e : Edge) → IsEdgeAt vs to l e → IsEdgeAt vs to l (edge_of vs to l)
  edge_there to l e h = subst (λ (f : Edge). IsEdgeAt vs to l f) (edge_is to l e h) h

then_less : (a b : Ordering) → ordering_then a b ≡ Less → (a ≡ Less) ⊎ ((a ≡ Equal) × (b ≡ Less))
then_less Less b e = inl refl
then_less Equal b e = inr (refl, e)
then_less Greater b e = absurd cc

pub first_less : (a b : Ordering) → a ≡ Less → ordering_then a b ≡ Less
first_less a b e = ap (λ (o : Ordering). ordering_then o b) e

then_second : (a b : Ordering) → a ≡ Equal → b ≡ Less → ordering_then a b ≡ Less
then_second a b e l = ap (λ (o : Ordering). ordering_then o b) e ∙ l

less_below : (a b : ℕ) → nat_cmp a b ≡ Less → a < b
less_below a b e = ranked a b Less (sym e)

-- in one row, the order of links is that of their edges
module _ (vs : List Vertex) (up : Ascends vertex_cmp vs) where
  place_less : (i j : ℕ) (v w : Vertex) → nat_cmp i j ≡ Less → slice_get vs i ≡ Some v → slice_get vs j ≡ Some w → vertex_cmp v w ≡ Less
  place_less i j v w e a b = up i j v w (less_below i j e) a b

  by_kinds : (e f e' f' : Kind) → e ≡ e' → f ≡ f' → kind_cmp e' f' ≡ Less → kind_cmp e f ≡ Less
  by_kinds e f e' f' a b less = ap₂ kind_cmp a b ∙ less

  kind_less : (k m : LinkKind) (v : Vertex) (e f : Kind) → IsKindAt vs k v e → IsKindAt vs m v f → (kinds.ghosts).cmp k m ≡ Less → kind_cmp e f ≡ Less
  kind_less (Control a) (Control b) v e f h i less = by_kinds e f (kind.Control a) (kind.Control b) h i less
  kind_less (Control a) Independent v e f h (x, d, is) less = by_kinds e f (kind.Control a) (kind.Independent x) h is refl
  kind_less (Control a) (Carried w) v e f h (x, t, d, at, is) less = by_kinds e f (kind.Control a) (kind.Carried x t) h is refl
  kind_less (Control a) (Order u) v e f h (t, at, is) less = by_kinds e f (kind.Control a) (kind.Order t) h is refl
  kind_less Independent (Control b) v e f h i less = absurd cc
  kind_less Independent Independent v e f h i less = absurd cc
  kind_less Independent (Carried w) v e f (x, d, is) (y, t, c, at, js) less = by_kinds e f (kind.Independent x) (kind.Carried y t) is js refl
  kind_less Independent (Order u) v e f (x, d, is) (t, at, js) less = by_kinds e f (kind.Independent x) (kind.Order t) is js refl
  kind_less (Carried w) (Control b) v e f h i less = absurd cc
  kind_less (Carried w) Independent v e f h i less = absurd cc
  kind_less (Carried w) (Carried w') v e f (x, t, d, at, is) (y, s, c, at', js) less =
      let same : x ≡ y = some_inj x y (sym d ∙ c) in
      by_kinds e f (kind.Carried y t) (kind.Carried y s) (is ∙ ap (λ (z : List ℕ). kind.Carried z t) same) js
      (then_second _ (vertex_cmp t s) (tied_itself nat_list_cmp_total y) (place_less w w' t s less at at'))
  kind_less (Carried w) (Order u) v e f (x, t, d, at, is) (s, at', js) less = by_kinds e f (kind.Carried x t) (kind.Order s) is js refl
  kind_less (Order u) (Control b) v e f h i less = absurd cc
  kind_less (Order u) Independent v e f h i less = absurd cc
  kind_less (Order u) (Carried w) v e f h i less = absurd cc
  kind_less (Order u) (Order u') v e f (t, at, is) (s, at', js) less =
      by_kinds e f (kind.Order t) (kind.Order s) is js (place_less u u' t s less at at')

  same_vertices : (i : ℕ) (v w : Vertex) → slice_get vs i ≡ Some v → slice_get vs i ≡ Some w → v ≡ w
  same_vertices i v w a b = some_inj v w (sym a ∙ b)

  link_less : (to : ℕ) (l m : Link) (e f : Edge) → IsEdgeAt vs to l e → IsEdgeAt vs to m f → link_cmp l m ≡ Less → edge_cmp e f ≡ Less
  link_less to l m e f h i less =
      let to_same : e.to ≡ f.to = same_vertices to e.to f.to h.0 i.0 in
      let ties : vertex_cmp e.to f.to ≡ Equal = ap (λ (v : Vertex). vertex_cmp v f.to) to_same ∙ vertex_itself f.to in
      then_second (vertex_cmp e.to f.to) (ordering_then (vertex_cmp e.from f.from) (kind_cmp e.kind f.kind)) ties
      (elim (then_less (nat_cmp l.from m.from) ((kinds.ghosts).cmp l.kind m.kind) less) [
        | inl before ↦ first_less (vertex_cmp e.from f.from) (kind_cmp e.kind f.kind) (place_less l.from m.from e.from f.from before h.1 i.1)
        | inr (tie, after) ↦
            (let number : l.from ≡ m.from = nat_cmp-IsAntisymmetric l.from m.from tie in
            let from_same : e.from ≡ f.from = same_vertices m.from e.from f.from (subst (λ (n : ℕ). slice_get vs n ≡ Some e.from) number h.1) i.1 in
            then_second (vertex_cmp e.from f.from) (kind_cmp e.kind f.kind)
            (ap (λ (v : Vertex). vertex_cmp v f.from) from_same ∙ vertex_itself f.from)
            (kind_less l.kind m.kind f.from e.kind f.kind (subst (λ (v : Vertex). IsKindAt vs l.kind v e.kind) from_same h.2) i.2 after))
      ])

  -- edges into vertices in ascending order ascend
  row_less : (i j : ℕ) (e f : Edge) → i < j → slice_get vs i ≡ Some e.to → slice_get vs j ≡ Some f.to → edge_cmp e f ≡ Less
  row_less i j e f l a b = first_less (vertex_cmp e.to f.to) (ordering_then (vertex_cmp e.from f.from) (kind_cmp e.kind f.kind)) (up i j e.to f.to l a b)

-- which edges stand in the rows
module _ (vs : List Vertex) where
  abbrev InRows : ℕ → List (List Link) → Edge → Type 0
  InRows n rows e = (i : ℕ) × (l : Link) × Contains (row_items (slice_get rows i)) l × (edge_of vs (n + i) l ≡ e)

  at_next : (n i : ℕ) (l : Link) (e : Edge) → edge_of vs ((n + 1) + i) l ≡ e → edge_of vs (n + suc i) l ≡ e
  at_next n i l e is = let one : n + suc i ≡ (n + 1) + i = omega arith in ap (λ (m : ℕ). edge_of vs m l) one ∙ is

  in_rows : (n : ℕ) (rows : List (List Link)) (e : Edge) → Contains (edges_from vs n rows) e → InRows n rows e
  in_rows n [] e h = absurd (in_none e h)
  in_rows n (row ∷ rows) e h = elim (Contains-append_cases (map (edge_of vs n) row) (edges_from vs (n + 1) rows) e h) [
    | inl here ↦ (let (l, there, is) = map_in (edge_of vs n) row e here in
        let none : n + 0 ≡ n = omega arith in
        (0, l, there, ap (λ (m : ℕ). edge_of vs m l) none ∙ is))
    | inr later ↦ (let (i, l, there, is) = in_rows (n + 1) rows e later in (suc i, l, there, at_next n i l e is))
  ]

  rows_in : (n : ℕ) (rows : List (List Link)) (i : ℕ) (l : Link) → Contains (row_items (slice_get rows i)) l → Contains (edges_from vs n rows) (edge_of vs (n + i) l)
  rows_in n [] i l h = absurd (in_none l h)
  rows_in n (row ∷ rows) zero l h =
      let none : n ≡ n + 0 = omega arith in
      subst (λ (m : ℕ). Contains (map (edge_of vs n) row ++ edges_from vs (n + 1) rows) (edge_of vs m l)) none
      (Contains-append_left (map (edge_of vs n) row) (edges_from vs (n + 1) rows) (edge_of vs n l) (in_map (edge_of vs n) row l h))
  rows_in n (row ∷ rows) (suc i) l h =
      let one : (n + 1) + i ≡ n + suc i = omega arith in
      subst (λ (m : ℕ). Contains (map (edge_of vs n) row ++ edges_from vs (n + 1) rows) (edge_of vs m l)) one
      (Contains-append_right (map (edge_of vs n) row) (edges_from vs (n + 1) rows) (edge_of vs ((n + 1) + i) l) (rows_in (n + 1) rows i l h))

  count_from : (n : ℕ) (rows : List (List Link)) → length (edges_from vs n rows) ≡ sum_by (λ row. length row) rows
  count_from n [] = refl
  count_from n (row ∷ rows) =
      omega (arith, length-append (map (edge_of vs n) row) (edges_from vs (n + 1) rows), length-map row (edge_of vs n), count_from (n + 1) rows, sum_by-cons (λ (r : List Link). length r) row rows)

  rows_rise : Ascends vertex_cmp vs → (n : ℕ) (rows : List (List Link)) → ((i : ℕ) → Ascends link_cmp (row_items (slice_get rows i)))
      → ((i : ℕ) (l : Link) → Contains (row_items (slice_get rows i)) l → IsEdgeAt vs (n + i) l (edge_of vs (n + i) l)) → Rises edge_cmp (edges_from vs n rows)
  rows_rise up n [] row_up stands = tt
  rows_rise up n (row ∷ rows) row_up stands =
      let none : n + 0 ≡ n = omega arith in
      let one : (i : ℕ) → n + suc i ≡ (n + 1) + i = λ i. omega arith in
      let here : (l : Link) → Contains row l → IsEdgeAt vs n l (edge_of vs n l) = λ l h. subst (λ (m : ℕ). IsEdgeAt vs m l (edge_of vs m l)) none (stands 0 l h) in
      let later : (i : ℕ) (l : Link) → Contains (row_items (slice_get rows i)) l → IsEdgeAt vs ((n + 1) + i) l (edge_of vs ((n + 1) + i) l) =
      λ i l h. subst (λ (m : ℕ). IsEdgeAt vs m l (edge_of vs m l)) (one i) (stands (suc i) l h) in
      rises_append edge_cmp (map (edge_of vs n) row) (edges_from vs (n + 1) rows)
      (rises_map link_cmp edge_cmp (edge_of vs n) row (rises link_cmp row (row_up 0))
      (λ a b p q less. link_less vs up n a b (edge_of vs n a) (edge_of vs n b) (here a p) (here b q) less))
      (rows_rise up (n + 1) rows (λ i. row_up (suc i)) later)
      (λ x y p q.
      (let (l, there, is) = map_in (edge_of vs n) row x p in
      let (i, m, there', is') = in_rows (n + 1) rows y q in
      row_less vs up n ((n + 1) + i) x y (omega arith)
      (subst (λ (e : Edge). slice_get vs n ≡ Some e.to) is (here l there).0)
      (subst (λ (e : Edge). slice_get vs ((n + 1) + i) ≡ Some e.to) is' (later i m there').0)))

-- where vertices and rows ascend, the edges row by row are those of the graph, in their order
pub edges_in_order : (g : Numbered) → IsNumbered g → Ascends vertex_cmp g.vertices → RowsAscend link_cmp g → AreEdgesOf (graph_in g) (edges_of g)
edges_in_order g k up rows =
    let stands : (i : ℕ) (l : Link) → Contains (row_items (slice_get g.links i)) l → IsEdgeAt g.vertices i l (edge_of g.vertices i l) =
    λ i l h. (let (e, is) = k.links i l h in edge_there g.vertices i l e is) in
    let plus : (i : ℕ) → i ≡ 0 + i = λ i. omega arith in (
      ascends edge_cmp (edges_of g) (rows_rise g.vertices up 0 g.links rows (λ i l h. subst (λ (m : ℕ). IsEdgeAt g.vertices m l (edge_of g.vertices m l)) (plus i) (stands i l h))),
      λ e. (
        λ h.
            (let (i, l, there, is) = in_rows g.vertices 0 g.links e h in
            (i, l, there, subst (λ (f : Edge). IsEdgeAt g.vertices i l f) (ap (λ (m : ℕ). edge_of g.vertices m l) (plus i) ∙ is) (stands i l there))),
        λ (i, l, has, is).
            subst (λ (f : Edge). Contains (edges_of g) f) (sym (edge_is g.vertices i l e is ∙ ap (λ (m : ℕ). edge_of g.vertices m l) (plus i))) (rows_in g.vertices 0 g.links i l has),
      ),
    )

-- as many edges as links
pub edges_of_count : (g : Numbered) → length (edges_of g) ≡ link_count g
edges_of_count g = count_from g.vertices 0 g.links

-- where a graph was put in its order
pub edges_reordered : (g h : Numbered) → IsNumbered h → Same (graph_in h) (graph_in g) → AreVerticesOf (graph_in g) h.vertices → RowsAscend link_cmp h → AreEdgesOf (graph_in g) (edges_of h)
edges_reordered g h k same vs rows = edges_of_same (graph_in h) (graph_in g) (edges_of h) same (edges_in_order h k vs.0 rows)

-- a vertex ties with itself
pub ties_itself : (v : Vertex) → vertex_cmp v v ≡ Equal
ties_itself v = vertex_itself v
