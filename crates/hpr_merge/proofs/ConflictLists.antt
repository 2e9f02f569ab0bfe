-- The conflicts of one variant, one vertex after another.
use Rattle.std.proofs.Common.{◌≡◌, ℕ, ◌+◌, ◌<◌, ◌↔◌, ◌⊎◌, inl, inr, Option, Some, None, List, [], ◌∷◌, ◌++◌, length, Contains, slice_get, sym, ap, ◌∙◌, subst, arith}
use Rattle.std.specs.declared.cmp.Ordering.TheVariants.{Less}
use Rattle.std.proofs.lemmas.Bool.{cases_eq}
use Rattle.std.proofs.lemmas.Option.{slice_get_within}
use Rattle.std.proofs.lemmas.List.Elements.{Contains-push, Contains-push_cases, Contains-append_left}
use Rattle.hpr_graph.specs.declared.vertex.Vertex.{Vertex}
use Rattle.hpr_graph.specs.declared.edge.Edge.{Edge}
use Rattle.hpr_graph.specs.Graphs.{Graph}
use Rattle.hpr_graph.specs.Numbered.{Numbered, HasEdge, HasVertex, graph_in}
use Rattle.hpr_graph.specs.Order.{vertex_cmp}
use Rattle.hpr_graph.specs.InOrder.{Ascends, RowsAscend}
use Rattle.hpr_graph.specs.Conflicts.{IsAdded, IsLeast}
use Rattle.hpr_graph.specs.Whole.{HasLoops}
use Rattle.hpr_graph.proofs.InOrder.{vertices_agree}
use Rattle.hpr_graph.proofs.Laws.{closed_by_numbers}
use Rattle.hpr_slice.specs.Vertices.{IsOneOf}
use Rattle.hpr_graph.proofs.Lists.{some_inj, in_none, contains_at, place_of, at_push}
use Rattle.hpr_affected.specs.Numbers.{AreNumbersOf}
use Rattle.hpr_merge.specs.Beside.{AreBeside}
use Rattle.hpr_merge.specs.PointConflicts.{IsPointConflict, ArePointConflicts, IsEdgeOfPoint, with_edge}
use Rattle.hpr_graph.proofs.EdgeOrder.{edge_one}
use Rattle.hpr_graph.proofs.LinkOrder.{link_cmp}
use Rattle.hpr_merge.proofs.Widened.{least_narrow, least_wide, loops_over}

abbrev IsBefore : List Vertex → ℕ → Vertex → Type 0
IsBefore vs n v = (i : ℕ) × (i < n) × (slice_get vs i ≡ Some v)

-- those at the first n vertices
pub record AreConflictsTo (m k : Graph) (P : Vertex → Type 0) (vs : List Vertex) (n : ℕ) (ps : List (Vertex × Edge)) : Type 0 where
  pub exact : (p : Vertex × Edge) → Contains ps p ↔ (IsPointConflict m k P p × IsBefore vs n p.0)
  pub ascend : (i j : ℕ) (p q : Vertex × Edge) → i < j → slice_get ps i ≡ Some p → slice_get ps j ≡ Some q → vertex_cmp p.0 q.0 ≡ Less

module _ (m k : Graph) (P : Vertex → Type 0) (vs : List Vertex) where
  pub conflicts_none : (ps : List (Vertex × Edge)) → ps ≡ [] → AreConflictsTo m k P vs 0 ps
  conflicts_none ps e =
      rw e (record {
        exact = λ p. (λ h. absurd (in_none p h), λ (is, (i, l, at)). absurd (omega (arith, l)));
        ascend = λ i j p q l at. absurd (in_none p (contains_at [] i p at));
      })

  later : (n : ℕ) (v : Vertex) → IsBefore vs n v → IsBefore vs (n + 1) v
  later n v (i, l, at) = (i, omega (arith, l), at)

  earlier : (n : ℕ) (v w : Vertex) → slice_get vs n ≡ Some v → IsBefore vs (n + 1) w → (IsBefore vs n w) ⊎ (w ≡ v)
  earlier n v w at_n (i, l, at) = elim (cases_eq i n) [
    | inl here ↦ inr (some_inj w v (sym at ∙ ap (slice_get vs) here ∙ at_n))
    | inr other ↦ inl (i, omega (arith, l, other), at)
  ]

  one_least : (v w : Vertex) (e f : Edge) → w ≡ v → IsLeast (IsAdded m k v) e → IsLeast (IsAdded m k w) f → e ≡ f
  one_least v w e f same (adds, least) at_w =
      let (adds', least') = subst (λ (x : Vertex). IsLeast (IsAdded m k x) f) same at_w in
      edge_one e f (least' e adds) (least f adds')

  more_ascend : (n : ℕ) (v : Vertex) (e : Edge) (ps : List (Vertex × Edge)) → Ascends vertex_cmp vs → slice_get vs n ≡ Some v → AreConflictsTo m k P vs n ps
      → (i j : ℕ) (p q : Vertex × Edge) → i < j → slice_get (ps ++ (v, e) ∷ []) i ≡ Some p → slice_get (ps ++ (v, e) ∷ []) j ≡ Some q → vertex_cmp p.0 q.0 ≡ Less
  more_ascend n v e ps up at_n a i j p q l at_i at_j = elim (at_push ps (v, e) j q at_j) [
    | inl old_j ↦ elim (at_push ps (v, e) i p at_i) [
      | inl old_i ↦ a.ascend i j p q l old_i old_j
      | inr new_i ↦ absurd (let w = slice_get_within ps j q old_j in omega (arith, l, w, new_i.0))
    ]
    | inr new_j ↦ elim (at_push ps (v, e) i p at_i) [
      | inl old_i ↦
          (let (is, (k', less, at_p)) = (a.exact p).0 (contains_at ps i p old_i) in
          subst (λ (x : Vertex × Edge). vertex_cmp p.0 x.0 ≡ Less) new_j.1 (up k' n p.0 v less at_p at_n))
      | inr new_i ↦ absurd (omega (arith, l, new_i.0, new_j.0))
    ]
  ]

  -- one vertex more
  pub conflicts_more : (n : ℕ) (v : Vertex) (o : Option Edge) (ps ps' : List (Vertex × Edge)) → Ascends vertex_cmp vs → slice_get vs n ≡ Some v → IsEdgeOfPoint m k P v o → AreConflictsTo m k P vs n ps → ps' ≡ with_edge v o ps → AreConflictsTo m k P vs (n + 1) ps'
  conflicts_more n v None ps ps' up at_n none a items =
      rw items (record {
        exact = λ p. (
          λ h. (let (is, before) = (a.exact p).0 h in (is, later n p.0 before)),
          λ ((has, (adds, least)), before). elim (earlier n v p.0 at_n before) [
            | inl old ↦ (a.exact p).1 ((has, (adds, least)), old)
            | inr here ↦ absurd (none (subst P here has) p.1 (subst (λ (x : Vertex). IsAdded m k x p.1) here adds))
          ],
        );
        ascend = a.ascend;
      })
  conflicts_more n v (Some e) ps ps' up at_n (p_v, least_v) a items =
      rw items (record {
        exact = λ p. (
          λ h. elim (Contains-push_cases ps (v, e) p h) [
            | inl old ↦ (let (is, before) = (a.exact p).0 old in (is, later n p.0 before))
            | inr new ↦ subst (λ (x : Vertex × Edge). IsPointConflict m k P x × IsBefore vs (n + 1) x.0) new ((p_v, least_v), (n, omega arith, at_n))
          ],
          λ ((has, least), before). elim (earlier n v p.0 at_n before) [
            | inl old ↦ Contains-append_left ps ((v, e) ∷ []) p ((a.exact p).1 ((has, least), old))
            | inr here ↦
                (let edge = one_least v p.0 e p.1 here least_v least in
                let same : (v, e) ≡ p = λ i. (sym here i, edge i) in
                subst (λ (x : Vertex × Edge). Contains (ps ++ (v, e) ∷ []) x) same (Contains-push ps (v, e)))
          ],
        );
        ascend = more_ascend n v e ps up at_n a;
      })

  -- all vertices
  pub conflicts_all : (n : ℕ) (ps : List (Vertex × Edge)) → length vs ≡ n → AreConflictsTo m k P vs n ps → ArePointConflicts m k (λ v. P v × Contains vs v) ps
  conflicts_all n ps count a = record {
    exact = λ p. (
      λ h. (let ((has, least), (i, l, at)) = (a.exact p).0 h in ((has, contains_at vs i p.0 at), least)),
      λ ((has, there), least).
          (let (i, at) = place_of vs p.0 there in
          let w = slice_get_within vs i p.0 at in
          (a.exact p).1 ((has, least), (i, omega (arith, w, count), at))),
    );
    ascend = a.ascend;
  }

-- what is said of the pair's graph is said of the graph
pub edge_of_pair : (x m k : Numbered) (ns : List ℕ) (at : ℕ) (o : Option Edge) → x ≡ m → ((v : Vertex) → slice_get x.vertices at ≡ Some v → IsEdgeOfPoint (graph_in x) (graph_in k) (IsOneOf x ns) v o)
    → (v : Vertex) → slice_get m.vertices at ≡ Some v → IsEdgeOfPoint (graph_in m) (graph_in k) (IsOneOf m ns) v o
edge_of_pair x m k ns at o is h = subst (λ (y : Numbered). (v : Vertex) → slice_get y.vertices at ≡ Some v → IsEdgeOfPoint (graph_in y) (graph_in k) (IsOneOf y ns) v o) is h

-- conflicts at points that are said otherwise
points_said : (m g : Graph) (P Q : Vertex → Type 0) (ps : List (Vertex × Edge)) → ((v : Vertex) → P v ↔ Q v) → ArePointConflicts m g P ps → ArePointConflicts m g Q ps
points_said m g P Q ps same a = record {
  exact = λ p. (
    λ h. (let (here, least) = (a.exact p).0 h in ((same p.0).0 here, least)),
    λ (here, least). (a.exact p).1 ((same p.0).1 here, least),
  );
  ascend = a.ascend;
}

pub points_there : (wide variant : Numbered) (g : Graph) (points numbers : List ℕ) (ps : List (Vertex × Edge)) → AreNumbersOf wide (IsOneOf variant points) numbers
    → ArePointConflicts (graph_in wide) g (λ v. IsOneOf wide numbers v × HasVertex wide v) ps → ArePointConflicts (graph_in wide) g (λ v. IsOneOf variant points v × HasVertex wide v) ps
points_there wide variant g points numbers ps are =
    points_said (graph_in wide) g (λ v. IsOneOf wide numbers v × HasVertex wide v) (λ v. IsOneOf variant points v × HasVertex wide v) ps
    (λ v. (
      λ ((at, has, at_v), there). ((are.exact at v at_v).0 has, there),
      λ (one, there). (let (at, at_v) = place_of wide.vertices v there in ((at, (are.exact at v at_v).1 one, at_v), there)),
    ))

-- both graphs with the vertices of both
module _ (merged variant wide narrow : Numbered) (all : (v : Vertex) → HasVertex wide v ↔ (HasVertex merged v ⊎ HasVertex variant v)) (own : (v : Vertex) → HasVertex narrow v ↔ (HasVertex variant v ⊎ HasVertex merged v)) where
  turned : (v : Vertex) → HasVertex narrow v ↔ HasVertex wide v
  turned v = (
    λ h. (all v).1 (elim ((own v).0 h) [ inl a ↦ inr a | inr b ↦ inl b ]),
    λ h. (own v).1 (elim ((all v).0 h) [ inl a ↦ inr a | inr b ↦ inl b ]),
  )

  pub are_beside : Ascends vertex_cmp wide.vertices → Ascends vertex_cmp narrow.vertices → RowsAscend link_cmp wide → RowsAscend link_cmp narrow → ((e : Edge) → HasEdge wide e ↔ HasEdge merged e) → ((e : Edge) → HasEdge narrow e ↔ HasEdge variant e)
      → HasLoops (graph_in merged) → HasLoops (graph_in variant) → AreBeside link_cmp wide narrow
  are_beside up up' rows rows' edges own_edges loops own_loops = record {
    order = up;
    vertices = vertices_agree (graph_in wide) narrow.vertices wide.vertices (up', turned) (up, λ v. (λ h. h, λ h. h));
    rows = rows;
    own_rows = rows';
    loops = loops_over (graph_in merged) (graph_in wide) edges loops;
    own_loops = loops_over (graph_in variant) (graph_in narrow) own_edges own_loops;
  }

  -- the conflicts at all vertices are those of the graphs themselves
  pub conflicts_whole : (points : List ℕ) (ps : List (Vertex × Edge)) → ((e : Edge) → HasEdge wide e ↔ HasEdge merged e) → ((e : Edge) → HasEdge narrow e ↔ HasEdge variant e)
      → ArePointConflicts (graph_in wide) (graph_in narrow) (λ v. IsOneOf variant points v × HasVertex wide v) ps → ArePointConflicts (graph_in merged) (graph_in variant) (IsOneOf variant points) ps
  conflicts_whole points ps edges own_edges a =
      let wider : (v : Vertex) → HasVertex variant v → HasVertex narrow v = λ v h. (own v).1 (inl h) in
      let there : (v : Vertex) → IsOneOf variant points v → HasVertex variant v = λ v (i, has, at). contains_at variant.vertices i v at in
      record {
        exact = λ p. (
          λ h.
              (let ((one, has), least) = (a.exact p).0 h in
              (one, least_narrow (graph_in merged) (graph_in wide) (graph_in variant) (graph_in narrow) (closed_by_numbers variant) edges own_edges wider p.0 (there p.0 one) p.1 least)),
          λ (one, least).
              (a.exact p).1 ((one, (all p.0).1 (inr (there p.0 one))), least_wide (graph_in merged) (graph_in wide) (graph_in variant) (graph_in narrow) (closed_by_numbers variant) edges own_edges wider p.0 (there p.0 one) p.1 least),
        );
        ascend = a.ascend;
      }

  pub conflicts_read : (x y : Numbered) (points : List ℕ) (ps : List (Vertex × Edge)) → x ≡ wide → y ≡ narrow → ArePointConflicts (graph_in x) (graph_in y) (λ v. IsOneOf variant points v × HasVertex x v) ps
      → ArePointConflicts (graph_in wide) (graph_in narrow) (λ v. IsOneOf variant points v × HasVertex wide v) ps
  conflicts_read x y points ps is_x is_y a =
      subst (λ (z : Numbered). ArePointConflicts (graph_in z) (graph_in narrow) (λ v. IsOneOf variant points v × HasVertex z v) ps) is_x
      (subst (λ (z : Numbered). ArePointConflicts (graph_in x) (graph_in z) (λ v. IsOneOf variant points v × HasVertex x v) ps) is_y a)
