-- Where there is no conflict, a program with the merged graph keeps the meaning of all variants.
use Rattle.hpr_meaning.specs.Any.Meaning.{Meaning, HasLaws}
use Rattle.std.proofs.Common.{List, [], ◌∷◌}
use Rattle.std.specs.List.{AllByRecursion}
use Rattle.hpr_meaning.specs.Any.Kept.{Keeps}
use Rattle.hpr_syntax.specs.Shape.{IsProgram}
use Rattle.hpr_syntax.specs.Tree.{Tree}
use Rattle.hpr_graph.specs.Answer.{Fits, IsWithoutConflict, graphs_of, merged_of, merged_of_all}
use Rattle.hpr_graph.specs.Conflicts.{HasNoConflict}
use Rattle.hpr_graph.specs.ProgramGraph.{graph_of}
use Rattle.hpr_meaning.specs.Any.KeptLaw.{KeepsAll}
use Rattle.hpr_meaning.proofs.KeptMeaning.{keeps_two, meaning_kept}
use Rattle.hpr_meaning.proofs.SidesKept.{each_kept, free_of_two}

module _ (M : Meaning) (LW : HasLaws M) where
  -- any program with the merged graph keeps the meaning
  pub all_kept : (base m : Tree) (vs : List Tree) → IsProgram base → AllByRecursion IsProgram vs → IsProgram m → HasNoConflict (graph_of base) (graphs_of vs) → Fits (merged_of_all base vs) m
      → KeepsAll M base vs m
  all_kept base m vs is all is_m free fits = meaning_kept M LW base m vs is all is_m fits (each_kept base vs is all free)

  pub kept_without_conflict : (base a b m : Tree) → IsProgram base → IsProgram a → IsProgram b → IsProgram m → IsWithoutConflict base a b → Fits (merged_of base a b) m → Keeps M base a b m
  kept_without_conflict base a b m is is_a is_b is_m free fits =
      keeps_two M LW base a b m (all_kept base m (a ∷ b ∷ []) is (is_a, (is_b, tt)) is_m (free_of_two base a b free) fits)
