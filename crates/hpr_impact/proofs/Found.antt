-- The reasons that are made of a search are those of the affected points.
use Rattle.std.proofs.Common.{◌≡◌, ℕ, suc, ◌↔◌, inl, inr, Option, Some, None, List, [], ◌∷◌, Contains, slice_get, refl, sym, ap, ◌∙◌, subst, arith}
use Rattle.std.proofs.lemmas.List.Elements.{Contains-push, Contains-push_cases, Contains-append_left}
use Rattle.std.proofs.lemmas.Option.{slice_get_within}
use Rattle.hpr_terms.proofs.Facts.{get_below, get_in_map, get_map, in_map, map_in}
use Rattle.hpr_search.specs.Rows.{numbers_at}
use Rattle.hpr_graph.specs.declared.vertex.Vertex.{Vertex}
use Rattle.hpr_graph.specs.declared.edge.Edge.{Edge}
use Rattle.hpr_graph.specs.Direct.{IsDirectlyAffected}
use Rattle.hpr_graph.specs.InOrder.{Ascends}
use Rattle.hpr_graph.specs.Numbered.{Numbered, graph_in}
use Rattle.hpr_graph.specs.Order.{vertex_cmp}
use Rattle.hpr_graph.specs.Points.{IsAffected}
use Rattle.hpr_graph.specs.Slices.{Leads}
use Rattle.hpr_graph.proofs.Lists.{in_none, place_of, some_inj, contains_at}
use Rattle.hpr_impact.specs.declared.search.Visit.{Visit}
use Rattle.hpr_impact.specs.declared.why.Reason.{Reason}
use Rattle.hpr_impact.specs.Reasons.{AreReasons, LeadsBack, ends, goes}
use Rattle.hpr_impact.specs.Reasons as reasons
use Rattle.hpr_impact.specs.Private.Search.{IsTrail, none, start, step, come_to, points_of}
use Rattle.hpr_impact.specs.Private.Ways.{AreBeside, AreMade, AreWays, IsEdgeFrom, IsMade, IsMadeBy, IsTableOf}
use Rattle.hpr_impact.proofs.Places.{one_place, places_rise}
use Rattle.hpr_impact.proofs.Visits.{points_known, visit_is, visit_listed}

by_none : (g : Numbered) (to : ℕ) (from : Option ℕ) (by : Option Edge) → IsMadeBy g to from by → (by ≡ None) ↔ (from ≡ None)
by_none g to None by is = (λ h. refl, λ h. is)
by_none g to (Some q) by (e, is, edge) = (λ h. absurd cc, λ h. absurd cc)

by_edge : (g : Numbered) (to : ℕ) (from : Option ℕ) (by : Option Edge) (e : Edge) → IsMadeBy g to from by → by ≡ Some e → (q : ℕ) × IsEdgeFrom g to q e
by_edge g to None by e is at = absurd cc
by_edge g to (Some q) by e (f, is, edge) at = (q, subst (IsEdgeFrom g to q) (some_inj f e (sym is ∙ at)) edge)

module _ (g base : Numbered) (starts points : List ℕ) (b : AreBeside g base starts points) (visits : List Visit) (ways : AreWays g starts visits) (table : List (Option Visit)) (t : IsTableOf visits table) (rs : List Reason)
    (made : AreMade g points table rs) where
  same_visit : (v w : Visit) → Contains visits v → Contains visits w → v.point ≡ w.point → v ≡ w
  same_visit v w has also same =
      let (i, at_i) = place_of visits v has in
      let (j, at_j) = place_of visits w also in
      let point : slice_get (points_of visits) j ≡ Some v.point = get_in_map (λ (x : Visit). x.point) visits j w at_j ∙ ap Some (sym same) in
      let one : i ≡ j = ways.once i j v.point (get_in_map (λ (x : Visit). x.point) visits i v at_i) point in
      some_inj v w (sym at_i ∙ ap (slice_get visits) one ∙ at_j)

  made_at : (v : Visit) → Contains visits v → (i : ℕ) → slice_get points i ≡ Some v.point → (r : Reason) × (slice_get rs i ≡ Some r) × IsMade g points v r
  made_at v has i at =
      let (w, at_w, known) = points_known g base starts points b visits ways table t v.point (contains_at points i v.point at) in
      let (also, here) = t.only v.point w at_w in
      let (r, at_r, is) = made.each i v.point w at at_w in
      (r, at_r, subst (λ (x : Visit). IsMade g points x r) (same_visit w v also has here) is)

  -- each reason is made of a visit
  reason_is : (i : ℕ) (r : Reason) → slice_get rs i ≡ Some r → (v : Visit) × Contains visits v × (slice_get points i ≡ Some v.point) × IsMade g points v r
  reason_is i r at =
      let (n, at_n) = get_below points i (let w = slice_get_within rs i r at in omega (arith, w, made.count)) in
      let (v, at_v, known) = points_known g base starts points b visits ways table t n (contains_at points i n at_n) in
      let (has, here) = t.only n v at_v in
      let (q, at_q, is) = made.each i n v at_n at_v in
      (v, has, at_n ∙ ap Some (sym here), subst (IsMade g points v) (some_inj q r (sym at_q ∙ at)) is)

  ascend : Ascends vertex_cmp g.vertices → Ascends vertex_cmp (reasons.points_of rs)
  ascend up i j x y l at_x at_y =
      let (r, at_r, r_is) = get_map (λ (s : Reason). s.point) rs i x at_x in
      let (q, at_q, q_is) = get_map (λ (s : Reason). s.point) rs j y at_y in
      let (v, has, at_v, is) = reason_is i r at_r in
      let (w, also, at_w, is_too) = reason_is j q at_q in
      up v.point w.point x y (places_rise points b.affected.ascend i j v.point w.point l at_v at_w) (is.point ∙ ap Some r_is) (is_too.point ∙ ap Some q_is)

  point_affected : (r : Reason) → Contains rs r → IsAffected (graph_in g) (graph_in base) r.point
  point_affected r has =
      let (i, at) = place_of rs r has in
      let (v, there, at_v, is) = reason_is i r at in
      (b.affected.exact v.point r.point is.point).0 (contains_at points i v.point at_v)

  affected_listed : (x : Vertex) → IsAffected (graph_in g) (graph_in base) x → Contains (reasons.points_of rs) x
  affected_listed x a =
      let (n, at_x) = place_of g.vertices x a.0 in
      let (i, at_n) = place_of points n ((b.affected.exact n x at_x).1 a) in
      let (w, at_w, known) = points_known g base starts points b visits ways table t n (contains_at points i n at_n) in
      let (r, at_r, is) = made.each i n w at_n at_w in
      let here : r.point ≡ x = some_inj r.point x (sym is.point ∙ ap (slice_get g.vertices) known.point ∙ at_x) in
      subst (Contains (reasons.points_of rs)) here (in_map (λ (s : Reason). s.point) rs r (contains_at rs i r at_r))

  direct : (r : Reason) → Contains rs r → (r.by ≡ None) ↔ IsDirectlyAffected (graph_in g) (graph_in base) r.point
  direct r has =
      let (i, at) = place_of rs r has in
      let (v, there, at_v, is) = reason_is i r at in
      let visit = visit_is g base starts points b visits ways v there in
      let by = by_none g v.point v.from r.by is.by in
      let exact = b.direct.exact v.point r.point is.point in
      (λ h. exact.0 (visit.begun (by.0 h)), λ h. by.1 (visit.begins (exact.1 h)))

  edges : (r : Reason) (e : Edge) → Contains rs r → r.by ≡ Some e → (graph_in g).edge e × Leads e.kind × (e.to ≡ r.point)
  edges r e has at_e =
      let (i, at) = place_of rs r has in
      let (v, there, at_v, is) = reason_is i r at in
      let (q, edge) = by_edge g v.point v.from r.by e is.by at_e in
      (edge.has, edge.leads, some_inj e.to r.point (sym edge.into ∙ is.point))

  start_back : (p : ℕ) → Contains visits (come_to None p) → (i k : ℕ) → slice_get points i ≡ Some p → slice_get points k ≡ Some p → (n : ℕ) × LeadsBack rs n i k
  start_back p has i k at_i at_k =
      let (r, at_r, is) = made_at (come_to None p) has i at_i in
      (0, subst (LeadsBack rs 0 i) (one_place points b.affected.ascend i k p at_i at_k) (ends at_r is.by))

  step_back : (w : Visit) (p : ℕ) → Contains visits w → Contains visits (come_to (Some w) p) → ((j : ℕ) → slice_get points j ≡ Some w.point → (k : ℕ) → slice_get points k ≡ Some w.root → (n : ℕ) × LeadsBack rs n j k)
      → (i k : ℕ) → slice_get points i ≡ Some p → slice_get points k ≡ Some w.root → (n : ℕ) × LeadsBack rs n i k
  step_back w p also has before i k at_i at_k =
      let (r, at_r, is) = made_at (come_to (Some w) p) has i at_i in
      let (e, by, from) = is.by in
      let (j, at_j) = place_of points w.point (visit_listed g base starts points b visits ways w also) in
      let (q, at_q, is_too) = made_at w also j at_j in
      let (n, back) = before j at_j k at_k in
      (suc n, goes at_r by at_q (some_inj q.point e.from (sym is_too.point ∙ from.out)) back)

  trail_back : (vs : List Visit) → IsTrail (numbers_at ways.rows) starts vs → ((v : Visit) → Contains vs v → Contains visits v) → (v : Visit) → Contains vs v → (i : ℕ) → slice_get points i ≡ Some v.point
      → (k : ℕ) → slice_get points k ≡ Some v.root → (n : ℕ) × LeadsBack rs n i k
  trail_back [] none within v h i at_i k at_k = absurd (in_none v h)
  trail_back _ (start {visits = vs} {p = p} trail has) within v h i at_i k at_k = elim (Contains-push_cases vs (come_to None p) v h) [
    | inl was ↦ trail_back vs trail (λ w there. within w (Contains-append_left vs (come_to None p ∷ []) w there)) v was i at_i k at_k
    | inr e ↦
        start_back p (within (come_to None p) (Contains-push vs (come_to None p))) i k (at_i ∙ ap (λ (w : Visit). Some w.point) (sym e)) (at_k ∙ ap (λ (w : Visit). Some w.root) (sym e))
  ]
  trail_back _ (step {visits = vs} {v = u} {p = p} trail there has new) within v h i at_i k at_k =
      let within_vs : (w : Visit) → Contains vs w → Contains visits w = λ w x. within w (Contains-append_left vs (come_to (Some u) p ∷ []) w x) in
      elim (Contains-push_cases vs (come_to (Some u) p) v h) [
        | inl was ↦ trail_back vs trail within_vs v was i at_i k at_k
        | inr e ↦
            step_back u p (within_vs u there) (within (come_to (Some u) p) (Contains-push vs (come_to (Some u) p))) (λ j at_j l at_l. trail_back vs trail within_vs u there j at_j l at_l) i k
            (at_i ∙ ap (λ (w : Visit). Some w.point) (sym e)) (at_k ∙ ap (λ (w : Visit). Some w.root) (sym e))
      ]

  pub reasons_found : Ascends vertex_cmp g.vertices → AreReasons (graph_in g) (graph_in base) rs
  reasons_found up = record {
    points = (
      ascend up,
      λ x. (
        λ h. (let (r, has, is) = map_in (λ (s : Reason). s.point) rs x h in subst (IsAffected (graph_in g) (graph_in base)) is (point_affected r has)),
        affected_listed x,
      ),
    );
    direct = direct;
    edges = edges;
    roots = λ i r at. (let (v, has, at_v, is) = reason_is i r at in trail_back visits ways.trail (λ w h. h) v has i at_v r.root is.root);
  }
