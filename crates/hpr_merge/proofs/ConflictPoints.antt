-- The points in conflict are those affected points that the merged graph has with another slice.
use Rattle.std.proofs.Common.{◌≡◌, ℕ, ◌↔◌, Bool, IsTrue, Some, List, [], ◌∷◌, Contains, slice_get, sym, subst, arith}
use Rattle.hpr_graph.specs.declared.vertex.Vertex.{Vertex}
use Rattle.hpr_graph.specs.declared.edge.Edge.{Edge}
use Rattle.hpr_graph.specs.Conflicts.{IsAdded}
use Rattle.hpr_graph.specs.Graphs.{IsOnce}
use Rattle.hpr_graph.specs.Numbered.{Numbered, HasVertex, IsOneOf, graph_in}
use Rattle.hpr_graph.specs.Points.{IsAffected}
use Rattle.hpr_graph.specs.Slices.{LeadsTo}
use Rattle.hpr_graph.proofs.Laws.{closed_by_numbers}
use Rattle.hpr_graph.proofs.Lists.{in_none, contains_at}
use Rattle.hpr_affected.specs.Comparison.{Sides}
use Rattle.hpr_affected.specs.Numbers.{AreNumbersOf}
use Rattle.hpr_merge.specs.PointConflicts.{ArePointConflicts}

leads_to_vertex : (m : Numbered) (a : Vertex) (es : List Edge) (b : Vertex) → HasVertex m a → LeadsTo (graph_in m) a es b → HasVertex m b
leads_to_vertex m a [] b h w = subst (HasVertex m) w h
leads_to_vertex m a (e ∷ es) b h w = leads_to_vertex m e.to es b (closed_by_numbers m e w.0).0 w.3

-- where an edge is added to a point's slice, the merged graph has the point with another slice
affected_by_added : (m g : Numbered) (v : Vertex) (e : Edge) → IsAdded (graph_in m) (graph_in g) v e → IsAffected (graph_in m) (graph_in g) v
affected_by_added m g v e (in_m, new, there) = (at_v, λ shared. new ((shared.1.1 e).0 in_m))
  where
    at_v : HasVertex m v
    at_v =
        let (s, es, is, leads) = in_m.1.0 in
        subst (HasVertex m) is (leads_to_vertex m e.to es s (closed_by_numbers m e in_m.0).0 leads)

module _ (m g : Numbered) (points : List ℕ) where
  abbrev pub InConflict : Vertex → Type 0
  InConflict v = IsOneOf g points v × IsAffected (graph_in m) (graph_in g) v

  wider : (kept : List ℕ) → AreNumbersOf g InConflict kept → (v : Vertex) (e : Edge) → IsOneOf g points v → IsAdded (graph_in m) (graph_in g) v e → IsOneOf g kept v
  wider kept are v e (at, has, at_v) added = (at, (are.exact at v at_v).1 ((at, has, at_v), affected_by_added m g v e added), at_v)

  narrower : (kept : List ℕ) → AreNumbersOf g InConflict kept → (v : Vertex) → IsOneOf g kept v → IsOneOf g points v
  narrower kept are v (at, has, at_v) = ((are.exact at v at_v).0 has).0

  -- the conflicts at these are all
  pub all_conflicts : (kept : List ℕ) (ps : List (Vertex × Edge)) → AreNumbersOf g InConflict kept → ArePointConflicts (graph_in m) (graph_in g) (IsOneOf g kept) ps → ArePointConflicts (graph_in m) (graph_in g) (IsOneOf g points) ps
  all_conflicts kept ps are a = record {
    exact = λ p. (
      λ h. (let (one, least) = (a.exact p).0 h in (narrower kept are p.0 one, least)),
      λ (one, least). (a.exact p).1 (wider kept are p.0 p.1 one least.0, least),
    );
    ascend = a.ascend;
  }

  -- without these there is none
  pub no_conflicts : (kept : List ℕ) (ps : List (Vertex × Edge)) → AreNumbersOf g InConflict kept → kept ≡ [] → ps ≡ [] → ArePointConflicts (graph_in m) (graph_in g) (IsOneOf g points) ps
  no_conflicts kept ps are none blank = record {
    exact = λ p. (
      λ h. absurd (in_none p (subst (λ (xs : List (Vertex × Edge)). Contains xs p) blank h)),
      λ (one, least). (let (at, has, at_v) = wider kept are p.0 p.1 one least.0 in absurd (in_none at (subst (λ (xs : List ℕ). Contains xs at) none has))),
    );
    ascend = λ i j p q l at_i. absurd (in_none p (subst (λ (xs : List (Vertex × Edge)). Contains xs p) blank (contains_at ps i p at_i)));
  }

  -- the test of a vertex
  pub conflict_test : (s : Sides) → s.graph ≡ m → s.other ≡ g → IsOnce g.vertices → (at : ℕ) (test : Bool)
      → ((v : Vertex) → slice_get s.other.vertices at ≡ Some v → IsTrue test ↔ (Contains points at × IsAffected (graph_in s.graph) (graph_in s.other) v))
      → (v : Vertex) → slice_get g.vertices at ≡ Some v → IsTrue test ↔ InConflict v
  conflict_test s is_m is_g once at test t v at_v =
      let u = subst (λ (x : Numbered). (v : Vertex) → slice_get g.vertices at ≡ Some v → IsTrue test ↔ (Contains points at × IsAffected (graph_in x) (graph_in g) v)) is_m
      (subst (λ (y : Numbered). (v : Vertex) → slice_get y.vertices at ≡ Some v → IsTrue test ↔ (Contains points at × IsAffected (graph_in s.graph) (graph_in y) v)) is_g t) v at_v in (
        λ yes. (let (has, affected) = u.0 yes in ((at, has, at_v), affected)),
        λ ((n, has, at_n), affected). u.1 (subst (Contains points) (once n at v at_n at_v) has, affected),
      )

-- of no points none is in conflict
pub none_of_none : (m g : Numbered) (points kept : List ℕ) → points ≡ [] → kept ≡ [] → AreNumbersOf g (InConflict m g points) kept
none_of_none m g points kept none is = subst (λ (ns : List ℕ). AreNumbersOf g (InConflict m g points) ns) (sym is) (record {
  ascend = λ i j x y l p q. absurd cc;
  within = λ k d l. absurd (omega (arith, l));
  exact = λ at v get. (
    λ h. absurd (in_none at h),
    λ (one, affected). (let (n, has, there) = one in absurd (in_none n (subst (λ (ns : List ℕ). Contains ns n) none has))),
  );
})
