-- Graphs have one list of conflicts.
use Rattle.std.proofs.Common.{◌≡◌, ℕ, inl, inr, List, [], ◌∷◌, arith}
use Rattle.hpr_graph.specs.declared.conflict.Conflict.{Conflict}
use Rattle.hpr_graph.specs.Conflicts.{told_as, ComesFirst, AreConflicts, AreConflictsBy}
use Rattle.hpr_graph.specs.Graphs.{Graph}
use Rattle.hpr_graph.specs.declared.edge.Edge.{Edge}
use Rattle.hpr_graph.specs.declared.vertex.Vertex.{Vertex}
use Rattle.hpr_graph.proofs.VertexOrder.{vertex_never}
use Rattle.hpr_graph.proofs.PutInOrder.{one_list}

never : (i j : ℕ) (v w : Vertex) → ComesFirst i v j w → ComesFirst j w i v → ⊥
never i j v w (inl less) (inl more) = omega (arith, less, more)
never i j v w (inl less) (inr (same, above)) = omega (arith, less, same)
never i j v w (inr (same, below)) (inl less) = omega (arith, less, same)
never i j v w (inr (same, below)) (inr (same', above)) = vertex_never v w below above

pub all_conflicts_one : {X : Type 0} (at : X → ℕ × Vertex × Edge) (base : Graph) (gs : List Graph) (xs ys : List X) → AreConflictsBy at base gs xs → AreConflictsBy at base gs ys → xs ≡ ys
all_conflicts_one {X} at base gs xs ys (exact, order) (exact', order') =
    one_list (λ (x y : X). ComesFirst (at x).0 (at x).1 (at y).0 (at y).1) (λ x y. never (at x).0 (at y).0 (at x).1 (at y).1) xs ys order order'
    (λ z. (λ h. (exact' z).1 ((exact z).0 h), λ h. (exact z).1 ((exact' z).0 h)))

pub one_conflicts : (base a b : Graph) (cs ds : List Conflict) → AreConflicts base a b cs → AreConflicts base a b ds → cs ≡ ds
one_conflicts base a b cs ds h k = all_conflicts_one told_as base (a ∷ b ∷ []) cs ds h k
