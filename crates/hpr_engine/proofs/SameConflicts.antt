-- Graphs that are the same have the same conflicts.
use Rattle.std.proofs.Common.{ℕ, List}
use Rattle.hpr_graph.specs.declared.vertex.Vertex.{Vertex}
use Rattle.hpr_graph.specs.declared.edge.Edge.{Edge}
use Rattle.hpr_graph.specs.Graphs.{Graph, Same}
use Rattle.hpr_graph.specs.Points.{IsAffected, merged_all}
use Rattle.hpr_graph.specs.Slices.{slice_at}
use Rattle.hpr_graph.specs.Conflicts.{graph_at, IsAdded, IsLeast, IsConflictAt, IsConflictOf, AreConflictsBy}
use Rattle.hpr_graph.proofs.Laws.{AllSame, all_turned, same_turned, same_then, slice_at_same, affected_same, graph_at_same, merged_all_same}
use Rattle.hpr_meaning.specs.UnionLaw.{KeepsIn}

-- the same slices in the same graphs
pub slices_same : (m m' g g' : Graph) → Same m m' → Same g g' → (v : Vertex) → Same (slice_at m v) (slice_at g v) → Same (slice_at m' v) (slice_at g' v)
slices_same m m' g g' sm sg v same =
    same_then (slice_at m' v) (slice_at m v) (slice_at g' v) (same_turned (slice_at m v) (slice_at m' v) (slice_at_same m m' v sm))
    (same_then (slice_at m v) (slice_at g v) (slice_at g' v) same (slice_at_same g g' v sg))

added_same : (m m' g g' : Graph) → Same m m' → Same g g' → (v : Vertex) (e : Edge) → IsAdded m g v e → IsAdded m' g' v e
added_same m m' g g' sm sg v e (inside, new, ends) =
    let in_m = slice_at_same m m' v sm in
    let in_g = slice_at_same g g' v sg in
    ((in_m.1 e).0 inside, λ old. new ((in_g.1 e).1 old), (in_g.0 e.to).0 ends)

least_same : (m m' g g' : Graph) → Same m m' → Same g g' → (v : Vertex) (e : Edge) → IsLeast (IsAdded m g v) e → IsLeast (IsAdded m' g' v) e
least_same m m' g g' sm sg v e (adds, least) =
    (added_same m m' g g' sm sg v e adds, λ f added. least f (added_same m' m g' g (same_turned m m' sm) (same_turned g g' sg) v f added))

conflict_at_same : (m m' g g' base base' : Graph) → Same m m' → Same g g' → Same base base' → (v : Vertex) → IsConflictAt m g base v → IsConflictAt m' g' base' v
conflict_at_same m m' g g' base base' sm sg s v (affected, differs) =
    (affected_same g g' base base' sg s v affected, λ same. differs (slices_same m' m g' g (same_turned m m' sm) (same_turned g g' sg) v same))

-- what base and its variants have as conflicts, the same graphs have
module _ (base base' : Graph) (gs hs : List Graph) (s : Same base base') (all : AllSame gs hs) where
  conflict_of_same : (i : ℕ) (v : Vertex) (e : Edge) → IsConflictOf base gs i v e → IsConflictOf base' hs i v e
  conflict_of_same i v e (stands, least) =
      let sm = merged_all_same base base' gs hs s all in
      let sg = graph_at_same gs hs all i in
      let m = merged_all base gs in
      let m' = merged_all base' hs in
      let g = graph_at gs i in
      let g' = graph_at hs i in
      (conflict_at_same m m' g g' base base' sm sg s v stands, least_same m m' g g' sm sg v e least)

pub conflicts_same : {X : Type 0} (at : X → ℕ × Vertex × Edge) (base base' : Graph) (gs hs : List Graph) → Same base base' → AllSame gs hs → (xs : List X)
    → AreConflictsBy at base gs xs → AreConflictsBy at base' hs xs
conflicts_same at base base' gs hs s all xs (exact, order) = (
  λ x. (
    λ h. conflict_of_same base base' gs hs s all (at x).0 (at x).1 (at x).2 ((exact x).0 h),
    λ h. (exact x).1 (conflict_of_same base' base hs gs (same_turned base base' s) (all_turned gs hs all) (at x).0 (at x).1 (at x).2 h),
  ),
  order,
)

-- where each affected point keeps its slice, it does in the same graphs
pub keeps_same : (m m' base base' : Graph) (gs hs : List Graph) → Same m m' → Same base base' → AllSame gs hs → KeepsIn m base gs → KeepsIn m' base' hs
keeps_same m m' base base' gs hs sm s all keeps i v affected =
    let sg : Same (graph_at gs i) (graph_at hs i) = graph_at_same gs hs all i in
    let was : IsAffected (graph_at gs i) base v =
    affected_same (graph_at hs i) (graph_at gs i) base' base (same_turned (graph_at gs i) (graph_at hs i) sg) (same_turned base base' s) v affected in
    slices_same m m' (graph_at gs i) (graph_at hs i) sm sg v (keeps i v was)
