-- The parts of the merged graph, by the numbers of their points.
use Rattle.std.proofs.Common.{◌≡◌, ℕ, ◌<◌, ◌↔◌, List, All, length, inl, inr, sym, subst}
use Rattle.std.specs.Ordering.{nat_cmp}
use Rattle.hpr_graph.specs.declared.vertex.Vertex.{Vertex}
use Rattle.hpr_graph.specs.declared.edge.Edge.{Edge}
use Rattle.hpr_graph.specs.Graphs.{Graph, Same, union_of}
use Rattle.hpr_graph.specs.InOrder.{Ascends}
use Rattle.hpr_graph.specs.Numbered.{Numbered, graph_in}
use Rattle.hpr_graph.specs.Points.{IsAffected}
use Rattle.hpr_graph.specs.Slices.{slice_of}
use Rattle.hpr_graph.proofs.Laws.{closed_by_numbers, same_then, slice_same_on}
use Rattle.hpr_slice.specs.Vertices.{IsOneOf}
use Rattle.hpr_affected.specs.Numbers.{AreNumbersOf}
use Rattle.hpr_affected.proofs.NumberedPoints.{one_of_points}
use Rattle.hpr_merge.specs.PointConflicts.{ArePointConflicts}

-- a union is the same either way
pub union_either : (g h : Graph) → Same (union_of g h) (union_of h g)
union_either g h = (
  λ v. (λ a. elim a [ inl x ↦ inr x | inr y ↦ inl y ], λ a. elim a [ inl y ↦ inr y | inr x ↦ inl x ]),
  λ e. (λ a. elim a [ inl x ↦ inr x | inr y ↦ inl y ], λ a. elim a [ inl y ↦ inr y | inr x ↦ inl x ]),
)

-- the slice at the vertices with these numbers is that at those with the property
module _ (g : Numbered) (P : Vertex → Type 0) (ns : List ℕ) (a : AreNumbersOf g P ns) where
  pub points_slice : (ns' : List ℕ) (part : Graph) → ns' ≡ ns → Same part (slice_of (graph_in g) (IsOneOf g ns')) → Same part (slice_of (graph_in g) P)
  points_slice ns' part read same =
      same_then part (slice_of (graph_in g) (IsOneOf g ns)) (slice_of (graph_in g) P) (subst (λ (xs : List ℕ). Same part (slice_of (graph_in g) (IsOneOf g xs))) read same)
      (slice_same_on (graph_in g) (IsOneOf g ns) P (closed_by_numbers g) (one_of_points g P ns a))

  pub points_within : (ns' : List ℕ) → ns' ≡ ns → All (λ p. p < length g.vertices) ns'
  points_within ns' read = subst (λ (xs : List ℕ). All (λ p. p < length g.vertices) xs) (sym read) a.within

-- the affected points as the vertices with their numbers
pub affected_points : (g base : Numbered) (ns : List ℕ) → AreNumbersOf g (IsAffected (graph_in g) (graph_in base)) ns → (v : Vertex) → IsOneOf g ns v ↔ IsAffected (graph_in g) (graph_in base) v
affected_points g base ns a v = (
  λ (at, has, at_v). (a.exact at v at_v).0 has,
  λ affected. (one_of_points g (IsAffected (graph_in g) (graph_in base)) ns a v affected.0).1 affected,
)

-- numbers that are read
pub ascending_read : (read ns : List ℕ) → read ≡ ns → Ascends nat_cmp ns → Ascends nat_cmp read
ascending_read read ns is up = subst (λ (xs : List ℕ). Ascends nat_cmp xs) (sym is) up

pub conflicts_read : (m g : Numbered) (read ns : List ℕ) (ps : List (Vertex × Edge)) → read ≡ ns → ArePointConflicts (graph_in m) (graph_in g) (IsOneOf g read) ps → ArePointConflicts (graph_in m) (graph_in g) (IsOneOf g ns) ps
conflicts_read m g read ns ps is a = subst (λ (xs : List ℕ). ArePointConflicts (graph_in m) (graph_in g) (IsOneOf g xs) ps) is a
