-- The marks of what is reached from the directly affected points are those of the affected points.
use Rattle.std.proofs.Common.{◌≡◌, ℕ, ◌↔◌, inl, inr, Bool, IsTrue, Some, List, slice_get, sym, subst}
use Rattle.hpr_search.specs.Marks.{IsMarked}
use Rattle.hpr_graph.specs.declared.vertex.Vertex.{Vertex}
use Rattle.hpr_graph.specs.Numbered.{Numbered, HasVertex, IsNumbered, IsOneOf, graph_in}
use Rattle.hpr_graph.specs.Points.{IsShared, IsAffected}
use Rattle.hpr_graph.specs.Slices.{IsReached}
use Rattle.hpr_graph.proofs.Lists.{contains_at}
use Rattle.hpr_slice.specs.Vertices.{MarksExactly}
use Rattle.hpr_graph.specs.Direct.{IsDirectlyAffected}
use Rattle.hpr_graph.specs.Whole.{IsWhole}
use Rattle.hpr_closure.proofs.FiniteGraphs.{finite_by_numbers}
use Rattle.hpr_closure.proofs.Reached.{affected_reached, shared_or_reached}
use Rattle.hpr_affected.specs.Comparison.{Sides, MarksAffected}
use Rattle.hpr_affected.specs.Numbers.{AreNumbersOf}
use Rattle.hpr_affected.proofs.NumberedPoints.{one_of_points}

module _ (g h : Numbered) (kg : IsNumbered g) (kh : IsNumbered h) (wg : IsWhole (graph_in g)) (wh : IsWhole (graph_in h)) where
  abbrev Direct : Vertex → Type 0
  Direct = IsDirectlyAffected (graph_in g) (graph_in h)

  abbrev Affected : Vertex → Type 0
  Affected = IsAffected (graph_in g) (graph_in h)

  law : (v : Vertex) → Affected v ↔ IsReached (graph_in g) Direct v
  law v = affected_reached (graph_in g) (graph_in h) (finite_by_numbers g kg) (finite_by_numbers h kh) wg wh v

  changed_marks : (numbers : List ℕ) (marks : List Bool) → AreNumbersOf g Direct numbers → MarksExactly g (IsReached (graph_in g) (IsOneOf g numbers)) marks → MarksExactly g Affected marks
  changed_marks numbers marks are m = record {
    count = m.count;
    exact = λ at v at_v. (
      λ marked. (let (s, es, (k, has, at_k), leads) = (m.exact at v at_v).0 marked in (law v).1 (s, es, (are.exact k s at_k).0 has, leads)),
      λ affected. (let (s, es, direct, leads) = (law v).0 affected in (m.exact at v at_v).1 (s, es, (one_of_points g Direct numbers are s direct.0).1 direct, leads)),
    );
  }

  -- what isn't affected is shared
  shared_unless : (v : Vertex) → HasVertex g v → ¬ Affected v → IsShared (graph_in g) (graph_in h) v
  shared_unless v there n = elim (shared_or_reached (graph_in g) (graph_in h) (finite_by_numbers g kg) (finite_by_numbers h kh) wg wh v there) [
    | inl shared ↦ shared
    | inr reached ↦ absurd (n ((law v).1 reached))
  ]

  pub reached_marks : (numbers : List ℕ) (marks : List Bool) → AreNumbersOf g Direct numbers → MarksExactly g (IsReached (graph_in g) (IsOneOf g numbers)) marks → MarksAffected g h marks
  reached_marks numbers marks are m =
      let exactly = changed_marks numbers marks are m in record {
        affected = exactly;
        shared = λ at v at_v unmarked. shared_unless v (contains_at g.vertices at v at_v) (λ affected. unmarked ((exactly.exact at v at_v).1 affected));
      }

-- a test of marks that are read
pub marked_test : (g : Numbered) (P : Vertex → Type 0) (marks read : List Bool) (at : ℕ) (test : Bool) → MarksExactly g P marks → read ≡ marks → IsTrue test ↔ IsMarked read at → (v : Vertex) → slice_get g.vertices at ≡ Some v → IsTrue test ↔ P v
marked_test g P marks read at test m is t v at_v = (
  λ x. (m.exact at v at_v).0 (subst (λ (ms : List Bool). IsMarked ms at) is (t.0 x)),
  λ p. t.1 (subst (λ (ms : List Bool). IsMarked ms at) (sym is) ((m.exact at v at_v).1 p)),
)

pub marks_beside : (s : Sides) (base : Numbered) (marks read : List Bool) → s.graph ≡ base → read ≡ marks → MarksAffected s.graph s.other marks → MarksAffected base s.other read
marks_beside s base marks read is same m = subst (λ (g : Numbered). MarksAffected g s.other read) is (subst (MarksAffected s.graph s.other) (sym same) m)
