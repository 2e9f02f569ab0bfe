-- A printed program keeps the meaning of all variants, and so does each program that has what is searched.
use Rattle.std.proofs.Common.{ℕ, List, [], ◌∷◌, length}
use Rattle.std.specs.List.{AllByRecursion}
use Rattle.hpr_terms.specs.declared.tag.Tag.{Tag}
use Rattle.hpr_syntax.specs.Meaning.{Keeps}
use Rattle.hpr_syntax.specs.Shape.{IsProgram}
use Rattle.hpr_syntax.specs.Tree.{Tree}
use Rattle.hpr_graph.specs.declared.vertex.Vertex.{Vertex}
use Rattle.hpr_graph.specs.declared.edge.Edge.{Edge}
use Rattle.hpr_graph.specs.Answer.{printed, graphs_of, searched_graph_of, AreSplitOff, Fits, IsAnswer, IsAnswerBy, IsWithoutConflict}
use Rattle.hpr_graph.specs.Conflicts.{told_as}
use Rattle.hpr_merge.proofs.NoneListed.{TellsEach, sides_tell}
use Rattle.hpr_meaning.specs.KeptLaw.{KeepsAll}
use Rattle.hpr_meaning.proofs.Own.{keeps_two}
use Rattle.hpr_meaning.proofs.SidesKept.{free_of_two}
use Rattle.hpr_rename.proofs.Own.{split_kept}
use Rattle.hpr_meaning.specs.Any.Standard.{standard}
use Rattle.hpr_meaning.proofs.Standard.{standard_laws, keeps_standard}
use Rattle.hpr_engine.proofs.AnyPrintedKeeps as any
pub use Rattle.hpr_merge.proofs.NoneListed.{triples_tell}

pub printed_keeps_by : {X : Type 0} (at : X → ℕ × Vertex × Edge) (base : Tree) (vs : List Tree) → TellsEach at (length (graphs_of vs)) → (tries : ℕ) (m : Tree) → IsProgram base → AllByRecursion IsProgram vs
    → IsAnswerBy at base vs tries (printed m) → KeepsAll base vs m
printed_keeps_by at base vs tells tries m is all answer = keeps_standard base m vs (any.printed_keeps_by standard standard_laws at base vs tells tries m is all answer)

-- of two variants, whoever made the program
pub split_kept_two : (base a b m : Tree) (rs : List (Vertex × Tag)) → IsProgram base → IsProgram a → IsProgram b → IsProgram m → IsWithoutConflict base a b → AreSplitOff base (a ∷ b ∷ []) rs
    → Fits (searched_graph_of rs base (a ∷ b ∷ [])) m → Keeps base a b m
split_kept_two base a b m rs is is_a is_b is_m free split fits =
    keeps_two base a b m
    (split_kept base m (a ∷ b ∷ []) rs is (is_a, (is_b, tt)) is_m (free_of_two base a b free) split fits)

pub printed_keeps : (base a b : Tree) (tries : ℕ) (m : Tree) → IsProgram base → IsProgram a → IsProgram b → IsAnswer base a b tries (printed m) → Keeps base a b m
printed_keeps base a b tries m is is_a is_b answer =
    keeps_two base a b m (printed_keeps_by told_as base (a ∷ b ∷ []) sides_tell tries m is (is_a, (is_b, tt)) answer)
