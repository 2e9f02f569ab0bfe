-- A printed program keeps the meaning of all variants, whatever the contents mean, and so does each program that has what is searched.
use Rattle.hpr_meaning.specs.Any.Meaning.{Meaning, HasLaws}
use Rattle.std.proofs.Common.{ℕ, List, [], ◌∷◌, length}
use Rattle.std.specs.List.{AllByRecursion}
use Rattle.hpr_terms.specs.declared.tag.Tag.{Tag}
use Rattle.hpr_meaning.specs.Any.Kept.{Keeps}
use Rattle.hpr_syntax.specs.Shape.{IsProgram}
use Rattle.hpr_syntax.specs.Tree.{Tree}
use Rattle.hpr_graph.specs.declared.vertex.Vertex.{Vertex}
use Rattle.hpr_graph.specs.declared.edge.Edge.{Edge}
use Rattle.hpr_graph.specs.Answer.{printed, graphs_of, searched_graph_of, AreSplitOff, Fits, IsAnswer, IsAnswerBy, IsWithoutConflict}
use Rattle.hpr_graph.specs.Conflicts.{told_as}
use Rattle.hpr_graph.specs.ProgramGraph.{graph_of}
use Rattle.hpr_merge.proofs.NoneListed.{TellsEach, none_told, sides_tell}
use Rattle.hpr_meaning.specs.Any.KeptLaw.{KeepsAll}
use Rattle.hpr_meaning.proofs.KeptMeaning.{keeps_two}
use Rattle.hpr_meaning.proofs.SidesKept.{free_of_two}
use Rattle.hpr_rename.proofs.SplitKeeps.{split_kept}
use Rattle.hpr_engine.proofs.OneAnswer.{printed_fits_by}

module _ (M : Meaning) (LW : HasLaws M) where
  pub printed_keeps_by : {X : Type 0} (at : X → ℕ × Vertex × Edge) (base : Tree) (vs : List Tree) → TellsEach at (length (graphs_of vs)) → (tries : ℕ) (m : Tree) → IsProgram base → AllByRecursion IsProgram vs
      → IsAnswerBy at base vs tries (printed m) → KeepsAll M base vs m
  printed_keeps_by at base vs tells tries m is all answer =
      let (is_m, (rs, split, fits)) = printed_fits_by at base vs tries m answer in
      split_kept M LW base m vs rs is all is_m (none_told at (graph_of base) (graphs_of vs) tells answer.0) split fits

  -- of two variants, whoever made the program
  pub split_kept_two : (base a b m : Tree) (rs : List (Vertex × Tag)) → IsProgram base → IsProgram a → IsProgram b → IsProgram m → IsWithoutConflict base a b → AreSplitOff base (a ∷ b ∷ []) rs
      → Fits (searched_graph_of rs base (a ∷ b ∷ [])) m → Keeps M base a b m
  split_kept_two base a b m rs is is_a is_b is_m free split fits =
      keeps_two M LW base a b m
      (split_kept M LW base m (a ∷ b ∷ []) rs is (is_a, (is_b, tt)) is_m (free_of_two base a b free) split fits)

  pub printed_keeps : (base a b : Tree) (tries : ℕ) (m : Tree) → IsProgram base → IsProgram a → IsProgram b → IsAnswer base a b tries (printed m) → Keeps M base a b m
  printed_keeps base a b tries m is is_a is_b answer =
      keeps_two M LW base a b m (printed_keeps_by told_as base (a ∷ b ∷ []) sides_tell tries m is (is_a, (is_b, tt)) answer)
