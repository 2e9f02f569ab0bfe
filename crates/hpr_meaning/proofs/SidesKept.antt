-- Where there is no conflict, each affected point keeps its slice.
use Rattle.std.proofs.Common.{List, [], ◌∷◌}
use Rattle.std.specs.List.{AllByRecursion}
use Rattle.hpr_syntax.specs.Shape.{IsProgram}
use Rattle.hpr_syntax.specs.Tree.{Tree}
use Rattle.hpr_graph.specs.Answer.{IsWithoutConflict, graphs_of}
use Rattle.hpr_graph.specs.Conflicts.{told_as, HasNoConflict}
use Rattle.hpr_graph.specs.ProgramGraph.{graph_of}
use Rattle.hpr_closure.proofs.ProgramFinite.{program_finite, programs_finite}
use Rattle.hpr_closure.proofs.ProgramWhole.{program_whole, programs_whole}
use Rattle.hpr_merge.proofs.EdgeStands.{kept_without}
use Rattle.hpr_merge.proofs.NoneListed.{none_told, sides_tell}
use Rattle.hpr_meaning.specs.UnionLaw.{KeepsEach}

pub each_kept : (base : Tree) (vs : List Tree) → IsProgram base → AllByRecursion IsProgram vs → HasNoConflict (graph_of base) (graphs_of vs) → KeepsEach base vs
each_kept base vs is all free i v =
    kept_without (graph_of base) (graphs_of vs) (program_whole base is) (program_finite base) (programs_whole vs all) (programs_finite vs) i v free

pub free_of_two : (base a b : Tree) → IsWithoutConflict base a b → HasNoConflict (graph_of base) (graphs_of (a ∷ b ∷ []))
free_of_two base a b free = none_told told_as (graph_of base) (graphs_of (a ∷ b ∷ [])) sides_tell free
