-- The merged graph of two variants of its parts, and the conflicts of both sides.
use Rattle.std.proofs.Common.{◌≡◌, ◌↔◌, List, [], ◌∷◌, ◌++◌, map, refl, arith}
use Rattle.hpr_graph.specs.declared.conflict.Conflict.{Conflict}
use Rattle.hpr_graph.specs.declared.conflict.Side.{Side}
use Rattle.hpr_graph.specs.declared.conflict.Side.TheVariants.{A, B}
use Rattle.hpr_graph.specs.declared.vertex.Vertex.{Vertex}
use Rattle.hpr_graph.specs.declared.edge.Edge.{Edge}
use Rattle.hpr_graph.specs.Graphs.{Graph, Same, union_of}
use Rattle.hpr_graph.specs.Slices.{slice_of}
use Rattle.hpr_graph.specs.Points.{IsAffected, IsPreserved, merged}
use Rattle.hpr_graph.specs.Conflicts.{number_of, told_as, AreConflicts}
use Rattle.hpr_graph.proofs.Laws.{same_then, union_same}
use Rattle.hpr_merge.specs.PointConflicts.{ArePointConflicts, conflict_on}
use Rattle.hpr_merge.proofs.SomeConflicts.{one_side}
use Rattle.hpr_merge.proofs.ToldConflicts.{IsTelling, told_none, told_more, told_all}

-- the parts together are the merged graph
pub merged_parts : (base ga gb pa pb shared both all : Graph) → Same pa (slice_of ga (IsAffected ga base)) → Same pb (slice_of gb (IsAffected gb base)) → Same shared (slice_of base (IsPreserved base ga gb)) → Same both (union_of pa pb) → Same all (union_of both shared) → Same all (merged base ga gb)
merged_parts base ga gb pa pb shared both all is_a is_b is_shared is_both is_all =
    let sa = slice_of ga (IsAffected ga base) in
    let sb = slice_of gb (IsAffected gb base) in
    let s = slice_of base (IsPreserved base ga gb) in
    same_then all (union_of both shared) (union_of (union_of sa sb) s) is_all
    (union_same both (union_of sa sb) shared s (same_then both (union_of pa pb) (union_of sa sb) is_both (union_same pa sa pb sb is_a is_b)) is_shared)

-- each side's conflicts are told by it
side_tells : (side : Side) → IsTelling told_as (number_of side) (conflict_on side)
side_tells side = record {
  tells = λ p. refl;
  told = λ c same. (let is = one_side c.side side same in λ i. record { side = is i; point = c.point; edge = c.edge });
}

-- the conflicts of A and those of B behind them
module _ (base ga gb m : Graph) (same : Same m (merged base ga gb)) (Pa Pb : Vertex → Type 0) (is_a : (v : Vertex) → Pa v ↔ IsAffected ga base v) (is_b : (v : Vertex) → Pb v ↔ IsAffected gb base v) (ps qs : List (Vertex × Edge)) (a : ArePointConflicts m ga Pa ps) (b : ArePointConflicts m gb Pb qs) where
  abbrev gs : List Graph
  gs = ga ∷ gb ∷ []

  pub both_sides : (all : List Conflict) → all ≡ map (conflict_on A) ps ++ map (conflict_on B) qs → AreConflicts base ga gb all
  both_sides all items =
      rw items
      (told_all told_as base gs 2 (map (conflict_on A) ps ++ map (conflict_on B) qs) (omega arith)
      (told_more told_as base gs m same 1 Pb is_b qs b (conflict_on B) (side_tells B) (map (conflict_on A) ps)
      (told_more told_as base gs m same 0 Pa is_a ps a (conflict_on A) (side_tells A) [] (told_none told_as base gs [] refl))))
