-- The graphs that were made are those of the programs.
use Rattle.std.proofs.Common.{◌≡◌, ℕ, suc, List, [], ◌∷◌, length, refl, ap, subst}
use Rattle.hpr_syntax.specs.Tree.{Tree}
use Rattle.hpr_graph.specs.declared.conflict.Conflict.{Conflict}
use Rattle.hpr_graph.specs.declared.edge.Edge.{Edge}
use Rattle.hpr_graph.specs.declared.vertex.Vertex.{Vertex}
use Rattle.hpr_graph.specs.Graphs.{Graph, Same}
use Rattle.hpr_graph.specs.Numbered.{Numbered, graph_in, graphs_in}
use Rattle.hpr_graph.specs.Points.{merged, merged_all}
use Rattle.hpr_graph.specs.ProgramGraph.{graph_of}
use Rattle.hpr_graph.specs.Answer.{graphs_of, merged_of, merged_of_all}
use Rattle.hpr_graph.specs.Conflicts.{told_as, AreConflicts, AreConflictsBy, HasNoConflict}
use Rattle.hpr_graph.proofs.Laws.{AllSame, merged_all_same, same_then}
use Rattle.hpr_graph.specs.Whole.{IsWhole, IsFinite, AreAll}
use Rattle.hpr_closure.proofs.FiniteGraphs.{finite_by_numbers}
use Rattle.hpr_closure.proofs.ProgramWhole.{program_whole}
use Rattle.hpr_closure.proofs.WholeSlices.{whole_same}
use Rattle.hpr_merge.proofs.EdgeStands.{kept_without}
use Rattle.hpr_merge.proofs.NoneListed.{none_told, sides_tell}
use Rattle.hpr_meaning.specs.UnionLaw.{KeepsEach, KeepsSides}
use Rattle.hpr_engine.specs.Made.{AreGraphsOf, IsGraphOf}
use Rattle.hpr_engine.proofs.SameConflicts.{conflicts_same, keeps_same}

-- the graph of a program, by numbers, is whole
pub whole_graph : (t : Tree) (g : Numbered) → IsGraphOf t g → IsWhole (graph_in g)
whole_graph t g is = whole_same (graph_in g) (graph_of t) is.same (program_whole t is.program)

pub none_listed : (base a b : Graph) (cs : List Conflict) → cs ≡ [] → AreConflicts base a b cs → AreConflicts base a b []
none_listed base a b cs e h = subst (AreConflicts base a b) e h

-- the variants' graphs by numbers are those of programs
pub each_whole : (ts : List Tree) (gs : List Numbered) → AreGraphsOf ts gs → AreAll IsWhole (graphs_in gs)
each_whole [] [] are = tt
each_whole [] (g ∷ gs) are = absurd are
each_whole (t ∷ ts) [] are = absurd are
each_whole (t ∷ ts) (g ∷ gs) are = (whole_graph t g are.0, each_whole ts gs are.1)

each_finite : (ts : List Tree) (gs : List Numbered) → AreGraphsOf ts gs → AreAll IsFinite (graphs_in gs)
each_finite [] [] are = tt
each_finite [] (g ∷ gs) are = absurd are
each_finite (t ∷ ts) [] are = absurd are
each_finite (t ∷ ts) (g ∷ gs) are = (finite_by_numbers g are.0.numbered, each_finite ts gs are.1)

all_same : (ts : List Tree) (gs : List Numbered) → AreGraphsOf ts gs → AllSame (graphs_in gs) (graphs_of ts)
all_same [] [] are = tt
all_same [] (g ∷ gs) are = absurd are
all_same (t ∷ ts) [] are = absurd are
all_same (t ∷ ts) (g ∷ gs) are = (are.0.same, all_same ts gs are.1)

pub as_many : (ts : List Tree) (gs : List Numbered) → AreGraphsOf ts gs → length gs ≡ length ts
as_many [] [] are = refl
as_many [] (g ∷ gs) are = absurd are
as_many (t ∷ ts) [] are = absurd are
as_many (t ∷ ts) (g ∷ gs) are = ap suc (as_many ts gs are.1)

module _ (p : Tree) (base : Numbered) (ts : List Tree) (gs : List Numbered) (base_is : IsGraphOf p base) (are : AreGraphsOf ts gs) where
  abbrev M : Graph
  M = merged_all (graph_in base) (graphs_in gs)

  same_merged : Same M (merged_of_all p ts)
  same_merged = merged_all_same (graph_in base) (graph_of p) (graphs_in gs) (graphs_of ts) base_is.same (all_same ts gs are)

  pub all_merged : (m : Numbered) → Same (graph_in m) M → Same (graph_in m) (merged_of_all p ts)
  all_merged m same = same_then (graph_in m) M (merged_of_all p ts) same same_merged

  pub all_conflicts_of : {X : Type 0} (at : X → ℕ × Vertex × Edge) (cs : List X) → AreConflictsBy at (graph_in base) (graphs_in gs) cs → AreConflictsBy at (graph_of p) (graphs_of ts) cs
  all_conflicts_of at cs h = conflicts_same at (graph_in base) (graph_of p) (graphs_in gs) (graphs_of ts) base_is.same (all_same ts gs are) cs h

  -- where there is no conflict, each affected point keeps its slice
  each_kept : HasNoConflict (graph_in base) (graphs_in gs) → KeepsEach p ts
  each_kept free =
      keeps_same M (merged_of_all p ts) (graph_in base) (graph_of p) (graphs_in gs) (graphs_of ts) same_merged base_is.same (all_same ts gs are)
      (λ i v. kept_without (graph_in base) (graphs_in gs) (whole_graph p base base_is) (finite_by_numbers base base_is.numbered) (each_whole ts gs are) (each_finite ts gs are) i v free)

-- the same of two variants
module _ (p q r : Tree) (base a b : Numbered) (base_is : IsGraphOf p base) (a_is : IsGraphOf q a) (b_is : IsGraphOf r b) where
  pub graph_merged : (m : Numbered) → Same (graph_in m) (merged (graph_in base) (graph_in a) (graph_in b)) → Same (graph_in m) (merged_of p q r)
  graph_merged m same = all_merged p base (q ∷ r ∷ []) (a ∷ b ∷ []) base_is (a_is, (b_is, tt)) m same

  pub conflicts_of : (cs : List Conflict) → AreConflicts (graph_in base) (graph_in a) (graph_in b) cs → AreConflicts (graph_of p) (graph_of q) (graph_of r) cs
  conflicts_of cs h = all_conflicts_of p base (q ∷ r ∷ []) (a ∷ b ∷ []) base_is (a_is, (b_is, tt)) told_as cs h

  pub kept : AreConflicts (graph_in base) (graph_in a) (graph_in b) [] → KeepsSides p q r
  kept none =
      each_kept p base (q ∷ r ∷ []) (a ∷ b ∷ []) base_is (a_is, (b_is, tt)) (none_told told_as (graph_in base) (graph_in a ∷ graph_in b ∷ []) sides_tell none)
