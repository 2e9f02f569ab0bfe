-- What is so of each visit of a search from the directly affected points.
use Rattle.std.proofs.Common.{◌≡◌, ℕ, ◌<◌, ◌↔◌, inl, inr, Option, Some, None, List, [], Contains, length, slice_get, refl, sym, ap, ◌∙◌, subst}
use Rattle.std.proofs.lemmas.List.Elements.{All-contains, Contains-push_cases}
use Rattle.std.proofs.lemmas.Option.{slice_get_within}
use Rattle.hpr_terms.proofs.Facts.{get_below, map_in}
use Rattle.hpr_search.specs.Rows.{numbers_at}
use Rattle.hpr_graph.specs.declared.vertex.Vertex.{Vertex}
use Rattle.hpr_graph.specs.Direct.{IsDirectlyAffected}
use Rattle.hpr_graph.specs.Numbered.{Numbered, graph_in, row_of}
use Rattle.hpr_graph.specs.Points.{IsAffected}
use Rattle.hpr_graph.specs.Slices.{IsReached}
use Rattle.hpr_graph.proofs.Lists.{in_none, place_of, some_inj}
use Rattle.hpr_closure.proofs.FiniteGraphs.{finite_by_numbers}
use Rattle.hpr_closure.proofs.Reached.{affected_reached}
use Rattle.hpr_slice.specs.Neighbours.{AreTargets, HasSource}
use Rattle.hpr_impact.specs.declared.search.Visit.{Visit}
use Rattle.hpr_impact.specs.Private.Search.{IsTrail, none, start, step, come_to}
use Rattle.hpr_impact.specs.Private.Ways.{AreBeside, AreKnown, AreWays, IsStep, IsTableOf, visit_at}
use Rattle.hpr_impact.proofs.Leading.{reached_more, source_edge, walk_ahead}

module _ (g base : Numbered) (starts points : List ℕ) (b : AreBeside g base starts points) where
  reached : (v : Vertex) → IsAffected (graph_in g) (graph_in base) v ↔ IsReached (graph_in g) (IsDirectlyAffected (graph_in g) (graph_in base)) v
  reached v = affected_reached (graph_in g) (graph_in base) (finite_by_numbers g b.graph) (finite_by_numbers base b.other) b.whole b.whole_other v

  pub record IsVisit (v : Visit) : Type 0 where
    pub vertex : Vertex
    pub at : slice_get g.vertices v.point ≡ Some vertex
    pub affected : IsAffected (graph_in g) (graph_in base) vertex
    pub root : Contains starts v.root
    pub step : IsStep g v.point v.from
    pub begun : v.from ≡ None → Contains starts v.point
    pub begins : Contains starts v.point → v.from ≡ None

  start_visit : (p : ℕ) → Contains starts p → IsVisit (come_to None p)
  start_visit p has =
      let (x, at) = get_below g.vertices p (All-contains (λ n. n < length g.vertices) starts p b.direct.within has) in
      record {
        vertex = x;
        at = at;
        affected = (reached x).1 (x, [], (b.direct.exact p x at).0 has, refl);
        root = has;
        step = tt;
        begun = λ h. has;
        begins = λ h. refl;
      }

  step_visit : (v : Visit) (p : ℕ) → IsVisit v → HasSource (row_of g p) v.point → ¬ Contains starts p → IsVisit (come_to (Some v) p)
  step_visit v p is source new =
      let (e, edge) = source_edge g b.graph p v.point source in
      let same : is.vertex ≡ e.from = some_inj is.vertex e.from (sym is.at ∙ edge.out) in
      let before = subst (IsReached (graph_in g) (IsDirectlyAffected (graph_in g) (graph_in base))) same ((reached is.vertex).0 is.affected) in
      record {
        vertex = e.to;
        at = edge.into;
        affected = (reached e.to).1 (reached_more (graph_in g) _ e before edge.has edge.leads);
        root = is.root;
        step = source;
        begun = λ h. absurd cc;
        begins = λ h. absurd (new h);
      }

  pub trail_visits : (rows : List (List ℕ)) → AreTargets g rows → (vs : List Visit) → IsTrail (numbers_at rows) starts vs → (v : Visit) → Contains vs v → IsVisit v
  trail_visits rows targets [] none v h = absurd (in_none v h)
  trail_visits rows targets _ (start {visits = vs} {p = p} t has) v h = elim (Contains-push_cases vs (come_to None p) v h) [
    | inl was ↦ trail_visits rows targets vs t v was
    | inr e ↦ subst IsVisit e (start_visit p has)
  ]
  trail_visits rows targets _ (step {visits = vs} {v = w} {p = p} t there has new) v h = elim (Contains-push_cases vs (come_to (Some w) p) v h) [
    | inl was ↦ trail_visits rows targets vs t v was
    | inr e ↦ subst IsVisit e (step_visit w p (trail_visits rows targets vs t w there) ((targets.exact w.point p).0 has) new)
  ]

  -- a directly affected point is an affected one
  pub start_point : (s : ℕ) → Contains starts s → Contains points s
  start_point s has =
      let (x, at) = get_below g.vertices s (All-contains (λ n. n < length g.vertices) starts s b.direct.within has) in
      (b.affected.exact s x at).1 ((reached x).1 (x, [], (b.direct.exact s x at).0 has, refl))

  module _ (visits : List Visit) (ways : AreWays g starts visits) where
    pub visit_is : (v : Visit) → Contains visits v → IsVisit v
    visit_is v h = trail_visits ways.rows ways.targets visits ways.trail v h

    pub visit_within : (v : Visit) → Contains visits v → v.point < length g.vertices
    visit_within v h = slice_get_within g.vertices v.point (visit_is v h).vertex (visit_is v h).at

    pub visit_listed : (v : Visit) → Contains visits v → Contains points v.point
    visit_listed v h = (b.affected.exact v.point (visit_is v h).vertex (visit_is v h).at).1 (visit_is v h).affected

    -- each affected point is visited
    pub point_visited : (n : ℕ) → Contains points n → (v : Visit) × Contains visits v × (v.point ≡ n)
    point_visited n has =
        let (x, at) = get_below g.vertices n (All-contains (λ i. i < length g.vertices) points n b.affected.within has) in
        let (s, es, direct, leads) = (reached x).0 ((b.affected.exact n x at).0 has) in
        let (m, at_s) = place_of g.vertices s direct.0 in
        let (p, via, at_p, walk) = walk_ahead g b.graph ways.rows ways.targets m es s x leads at_s in
        let (v, there, is) = map_in (λ (w : Visit). w.point) visits p (ways.complete p (m, via, (b.direct.exact m s at_s).1 direct, walk)) in
        (v, there, is ∙ b.graph.once p n x at_p at)

    pub points_known : (table : List (Option Visit)) → IsTableOf visits table → AreKnown g points table
    points_known table t n has =
        let (v, there, is) = point_visited n has in
        let (w, at) = t.all v there in
        let at_n : visit_at table n ≡ Some w = ap (visit_at table) (sym is) ∙ at in
        let (among, here) = t.only n w at_n in
        let known = visit_is w among in (
          w,
          at_n,
          record {
            point = here;
            vertex = subst (λ (i : ℕ). i < length g.vertices) here (visit_within w among);
            root = start_point w.root known.root;
            step = subst (λ (i : ℕ). IsStep g i w.from) here known.step;
          },
        )
