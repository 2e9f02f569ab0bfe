-- A graph put in its order.
use Rattle.std.proofs.Common.{◌≡◌, ◌≢◌, ℕ, suc, ◌+◌, ◌<◌, ◌≤◌, ◌↔◌, ◌⊎◌, inl, inr, Option, Some, None, IsSome, IfSome, Result, Ok, Err, MatchResult, List, [], ◌∷◌, ◌++◌, length, set, get_or, Contains, slice_get, sum_by, refl, sym, ap, ◌∙◌, subst, arith}
use Rattle.std.specs.declared.cmp.Ordering.{Ordering}
use Rattle.std.specs.declared.cmp.Ordering.TheVariants.{Less, Equal}
use Rattle.std.specs.Result.{result_ok}
use Rattle.std.specs.List.Sorted.{IsSorted, IsPermutation, IsBinarySearchResult, IsSearchInRange}
use Rattle.std.proofs.lemmas.Bool.{cases_eq, cases_lt}
use Rattle.std.proofs.lemmas.List.{length-set}
use Rattle.std.proofs.lemmas.List.Sorted.{searchable_from_sorted, Contains-permutation, IsPermutation-sym, IsPermutation-trans, length_permutation}
use Rattle.std.proofs.lemmas.List.Sums.{sum_by-cons}
use Rattle.std.proofs.lemmas.Option.{slice_get-get_or, slice_get_within, slice_get_past}
use Rattle.hpr_graph.specs.declared.vertex.Vertex.{Vertex}
use Rattle.hpr_graph.specs.declared.edge.Edge.{Edge}
use Rattle.hpr_graph.specs.declared.link.Link.{Link}
use Rattle.hpr_graph.specs.contracts.vertex.VertexOrd.TheImpl as vertices
use Rattle.hpr_graph.specs.contracts.vertex.VertexOrd.TheImpl.Laws as vertex_laws
use Rattle.hpr_graph.specs.contracts.link.LinkOrd.TheImpl.Laws as link_laws
use Rattle.hpr_graph.specs.Graphs.{Same, IsOnce, union_of}
use Rattle.hpr_graph.specs.Numbered.{Numbered, HasLink, HasEdge, IsEdgeAt, IsCounted, graph_in, row_items, row_of}
use Rattle.hpr_graph.specs.Moves.{HasNumber, ArePlaced, MovesEdge}
use Rattle.hpr_graph.specs.Order.{vertex_cmp}
use Rattle.hpr_graph.specs.InOrder.{Ascends, AreVerticesOf, RowsAscend}
use Rattle.hpr_graph.proofs.Ascending.{ascends_by, ascending_sorted, ascending_once, once_permuted}
use Rattle.hpr_graph.proofs.Joined.{no_link, united_same}
use Rattle.hpr_graph.proofs.Laws.{same_then}
use Rattle.hpr_graph.proofs.LinkOrder.{link_cmp, link_equal}
use Rattle.hpr_graph.proofs.Lists.{contains_at, get_set_same, get_set_other}
use Rattle.hpr_graph.proofs.Numbers.{numbered, grown_itself}
use Rattle.hpr_graph.proofs.Orders.{vertex_order}
use Rattle.hpr_graph.proofs.Placed.{AllPlaced, all_more}
use Rattle.hpr_graph.proofs.Searches.{not_less, less_equal, greater_equal, sorted_ascending}
use Rattle.hpr_graph.proofs.VertexOrder.{vertex_never, vertex_itself, vertex_tied}

-- vertices after a sort
pub vertices_sorted : (vs us : List Vertex) → IsOnce vs → IsPermutation vs us → IsSorted (vertices.ghosts).cmp us → Ascends vertex_cmp us
vertices_sorted vs us once moved up =
    ascends_by (vertices.ghosts).cmp vertex_cmp vertex_order us
    (ascending_sorted (vertices.ghosts).cmp vertex_laws.total-law (λ x y e. vertex_tied x y (sym (vertex_order x y) ∙ e)) us (once_permuted vs us moved once) up)

pub row_sorted : (row new : List Link) → IsOnce row → IsPermutation row new → IsSorted link_cmp new → Ascends link_cmp new
row_sorted row new once moved up = ascending_sorted link_cmp link_laws.total-law link_equal new (once_permuted row new moved once) up

pub row_in_order : (g : Numbered) (at : ℕ) (row : List Link) → RowsAscend link_cmp g → slice_get g.links at ≡ Some row → IsSorted link_cmp row
row_in_order g at row up is =
    subst (λ (xs : List Link). IsSorted link_cmp xs) (ap row_items is) (sorted_ascending link_cmp link_laws.total-law (row_of g at) (up at))

pub no_rows_ascend : (g : Numbered) → g.links ≡ [] → RowsAscend link_cmp g
no_rows_ascend g none at i j x y l p q = absurd (no_link g none at x (contains_at (row_of g at) i x p))

-- what a search among ascending vertices finds
module _ (vs : List Vertex) (v : Vertex) (up : Ascends vertex_cmp vs) where
  abbrev against : Vertex → Ordering
  against y = (vertices.ghosts).cmp y v

  sorted : IsSorted (vertices.ghosts).cmp vs
  sorted k d low high =
      let less : vertex_cmp (get_or vs k d) (get_or vs (k + 1) d) ≡ Less =
      up k (k + 1) (get_or vs k d) (get_or vs (k + 1) d) (omega arith) (slice_get-get_or vs k d (omega (arith, high))) (slice_get-get_or vs (k + 1) d high) in
      not_less ((vertices.ghosts).cmp (get_or vs (k + 1) d) (get_or vs k d))
      (sym (vertex_laws.total-law.antisymm (get_or vs k d) (get_or vs (k + 1) d)) ∙ vertex_order (get_or vs k d) (get_or vs (k + 1) d) ∙ less)

  itself : against v ≡ Equal
  itself = vertex_order v v ∙ vertex_itself v

  pub vertex_found : (r : Result ℕ ℕ) → IsSearchInRange r (length vs) → IsBinarySearchResult against vs r → MatchResult r (λ i. slice_get vs i ≡ Some v) (λ i. ¬ Contains vs v)
  vertex_found (Ok i) range found =
      slice_get-get_or vs i v range ∙ ap Some (vertex_tied (get_or vs i v) v (sym (vertex_order (get_or vs i v) v) ∙ found v))
  vertex_found (Err i) range found =
      let (below, above) = found (searchable_from_sorted vertex_laws.total-law (λ (y : Vertex). y) vs v sorted) in
      λ (k, within, is). elim (cases_lt k i) [
        | inl before ↦ less_equal (sym (below k v (omega arith) before) ∙ ap against is ∙ itself)
        | inr after ↦ greater_equal (sym (above k v after within) ∙ ap against is ∙ itself)
      ]

-- the number that a search gives
pub number_found : (r : Result ℕ ℕ) (o : Option ℕ) (P : ℕ → Type 0) (N : Type 0) → o ≡ result_ok r → MatchResult r P (λ i. ¬ N) → IfSome o P
number_found (Ok i) o P N e h = subst (λ (p : Option ℕ). IfSome p P) (sym e) h
number_found (Err i) o P N e h = subst (λ (p : Option ℕ). IfSome p P) (sym e) tt

pub number_there : (r : Result ℕ ℕ) (o : Option ℕ) (P : ℕ → Type 0) (N : Type 0) → o ≡ result_ok r → MatchResult r P (λ i. ¬ N) → N → IsSome o
number_there (Ok i) o P N e h there = subst (λ (p : Option ℕ). IsSome p) (sym e) refl
number_there (Err i) o P N e h there = absurd (h there)

-- after the numbers of the first vertices were looked up
abbrev pub FoundPlaced : List Vertex → List Vertex → List (Option ℕ) → ℕ → Type 0
FoundPlaced vs us ns at = AllPlaced (numbered vs []) (numbered us []) (numbered us []) ns at

pub found_more : (vs us : List Vertex) (ns ns' : List (Option ℕ)) (at : ℕ) (o : Option ℕ) (v : Vertex) → FoundPlaced vs us ns at → slice_get vs at ≡ Some v → IfSome o (λ n. slice_get us n ≡ Some v) → IsSome o → ns' ≡ ns ++ o ∷ [] → FoundPlaced vs us ns' (at + 1)
found_more vs us ns ns' at None v s here there some is = absurd cc
found_more vs us ns ns' at (Some n) v s here there some is =
    all_more (numbered vs []) (numbered us []) (numbered us []) (numbered us []) ns ns' at n v s here (grown_itself (numbered us [])) (λ e. (λ h. h, λ h. h)) there (λ x h. inl h) is

pub ascending_vertices_once : (vs : List Vertex) → Ascends vertex_cmp vs → IsOnce vs
ascending_vertices_once vs up = ascending_once vertex_cmp vertex_never vs up

-- rows with the same links under the same numbers make the same graph
pub same_links : (g h : Numbered) → h.vertices ≡ g.vertices → ((at : ℕ) (l : Link) → HasLink h at l ↔ HasLink g at l) → Same (graph_in h) (graph_in g)
same_links g h c links = (
  λ v. (λ has. subst (λ (us : List Vertex). Contains us v) c has, λ has. subst (λ (us : List Vertex). Contains us v) (sym c) has),
  λ e. (
    λ (i, l, has, is). (i, l, (links i l).0 has, subst (λ (us : List Vertex). IsEdgeAt us i l e) c is),
    λ (i, l, has, is). (i, l, (links i l).1 has, subst (λ (us : List Vertex). IsEdgeAt us i l e) (sym c) is),
  ),
)

-- the same graph, with its vertices and its rows in order
module _ (g placed whole final : Numbered) (vs : List Vertex) (ns : List (Option ℕ)) where
  pub reordered_vertices : placed.vertices ≡ vs → whole.vertices ≡ placed.vertices → final.vertices ≡ whole.vertices → Ascends vertex_cmp vs → ((x : Vertex) → Contains vs x ↔ Contains g.vertices x) → AreVerticesOf (graph_in g) final.vertices
  reordered_vertices a b c up all = subst (λ (us : List Vertex). AreVerticesOf (graph_in g) us) (sym (c ∙ b ∙ a)) (up, all)

  pub reordered_same : placed.vertices ≡ vs → ((e : Edge) → ¬ HasEdge placed e) → whole.vertices ≡ placed.vertices → ((e : Edge) → HasEdge whole e ↔ (HasEdge placed e ⊎ MovesEdge g ns e))
      → final.vertices ≡ whole.vertices → ((at : ℕ) (l : Link) → HasLink final at l ↔ HasLink whole at l) → ((x : Vertex) → Contains vs x ↔ Contains g.vertices x)
      → ArePlaced g.vertices ns vs → ((i : ℕ) → i < length g.vertices → HasNumber ns i) → Same (graph_in final) (graph_in g)
  reordered_same a none b moved_in c links all are_placed numbers =
      let joined = united_same placed g ns placed whole (subst (λ (us : List Vertex). ArePlaced g.vertices ns us) (sym a) are_placed) numbers (grown_itself placed)
      (λ e. (λ h. h, λ h. h)) (λ v h. inl h) b moved_in in
      let whole_same : Same (graph_in whole) (graph_in g) = same_then (graph_in whole) (union_of (graph_in placed) (graph_in g)) (graph_in g) joined (
        λ v. (λ h. elim h [ inl here ↦ (all v).0 (subst (λ (us : List Vertex). Contains us v) a here) | inr there ↦ there ], λ h. inr h),
        λ e. (λ h. elim h [ inl here ↦ absurd (none e here) | inr there ↦ there ], λ h. inr h),
      ) in
      same_then (graph_in final) (graph_in whole) (graph_in g) (same_links whole final c links) whole_same

-- rows in another order
lengths : (rows new : List (List Link)) → length new ≡ length rows → ((at : ℕ) → length (row_items (slice_get new at)) ≡ length (row_items (slice_get rows at))) → sum_by (λ row. length row) new ≡ sum_by (λ row. length row) rows
lengths [] [] e same = refl
lengths [] (x ∷ xs) e same = absurd (omega (arith, e))
lengths (x ∷ xs) [] e same = absurd (omega (arith, e))
lengths (x ∷ xs) (y ∷ ys) e same =
    omega (arith, sum_by-cons (λ (r : List Link). length r) x xs, sum_by-cons (λ (r : List Link). length r) y ys, same 0, lengths xs ys (omega (arith, e)) (λ at. same (suc at)))

module _ (rows new : List (List Link)) (moved : (at : ℕ) → IsPermutation (row_items (slice_get rows at)) (row_items (slice_get new at))) where
  pub rows_same_links : (at : ℕ) (l : Link) → Contains (row_items (slice_get new at)) l ↔ Contains (row_items (slice_get rows at)) l
  rows_same_links at l = (
    λ h. Contains-permutation _ _ l (IsPermutation-sym _ _ (moved at)) h,
    λ h. Contains-permutation _ _ l (moved at) h,
  )

  pub counted_sorted : (vs : List Vertex) (n : ℕ) → IsCounted (numbered vs rows) n → length new ≡ length rows → IsCounted (numbered vs new) n
  counted_sorted vs n g len = record {
    numbered = record {
      once = g.numbered.once;
      rows = len ∙ g.numbered.rows;
      links_once = λ to. once_permuted (row_items (slice_get rows to)) (row_items (slice_get new to)) (moved to) (g.numbered.links_once to);
      links = λ to l h. g.numbered.links to l ((rows_same_links to l).0 h);
    };
    count = g.count ∙ sym (lengths rows new len (λ at. length_permutation _ _ (moved at)));
  }

-- after the first rows were sorted
pub record RowsSorted (old rows : List (List Link)) (n : ℕ) : Type 0 where
  pub count : length rows ≡ length old
  pub same : (at : ℕ) → IsPermutation (row_items (slice_get old at)) (row_items (slice_get rows at))
  pub sorted : (at : ℕ) → at < n → IsSorted link_cmp (row_items (slice_get rows at))

module _ (old rows : List (List Link)) (n : ℕ) (so_far : RowsSorted old rows n) where
  pub rows_sorted_more : (rows' : List (List Link)) (row new : List Link) → slice_get rows n ≡ Some row → IsPermutation row new → IsSorted link_cmp new → rows' ≡ set rows n new → RowsSorted old rows' (n + 1)
  rows_sorted_more rows' row new at_n moved up is =
      let here : row_items (slice_get (set rows n new) n) ≡ new = ap row_items (get_set_same rows n new (slice_get_within rows n row at_n)) in
      let other : (at : ℕ) → at ≢ n → row_items (slice_get (set rows n new) at) ≡ row_items (slice_get rows at) = λ at ne. ap row_items (get_set_other rows n at new ne) in
      rw is (record {
        count = length-set rows n new ∙ so_far.count;
        same = λ at. elim (cases_eq at n) [
          | inl e ↦ subst (λ (m : ℕ). IsPermutation (row_items (slice_get old m)) (row_items (slice_get (set rows n new) m))) (sym e)
              (subst (λ (xs : List Link). IsPermutation (row_items (slice_get old n)) xs) (sym here)
              (IsPermutation-trans (row_items (slice_get old n)) row new (subst (λ (xs : List Link). IsPermutation (row_items (slice_get old n)) xs) (ap row_items at_n) (so_far.same n)) moved))
          | inr ne ↦ subst (λ (xs : List Link). IsPermutation (row_items (slice_get old at)) xs) (sym (other at ne)) (so_far.same at)
        ];
        sorted = λ at l. elim (cases_eq at n) [
          | inl e ↦ subst (λ (m : ℕ). IsSorted link_cmp (row_items (slice_get (set rows n new) m))) (sym e) (subst (λ (xs : List Link). IsSorted link_cmp xs) (sym here) up)
          | inr ne ↦ subst (λ (xs : List Link). IsSorted link_cmp xs) (sym (other at ne)) (so_far.sorted at (omega (arith, l, ne)))
        ];
      })

  pub rows_sorted_all : length rows ≤ n → (at : ℕ) → IsSorted link_cmp (row_items (slice_get rows at))
  rows_sorted_all past at = elim (cases_lt at n) [
    | inl l ↦ so_far.sorted at l
    | inr g ↦ subst (λ (o : Option (List Link)). IsSorted link_cmp (row_items o)) (sym (slice_get_past rows at (omega (arith, past, g)))) (λ k d low high. absurd (omega (arith, high)))
  ]
