-- What is done with texts.
--
-- IsMerged base a b merged     == the texts base, a and b spell programs, and merged spells one that keeps
--                                 the meaning of both variants
-- IsMergedForEvery V F base a b merged == so they do, and merged spells one that keeps it whatever the parts
--                                         mean, with values of V and faults of F
-- EndsWith text steps finals   == the text spells a program that ends so from the state in which each name is
--                                 0, within so many steps
-- MayEndWith text steps finals == that of the final values, if there are some
use Rattle.std.specs.Prelude.{ℕ, List, Option, Some, None}
use Rattle.std.specs.FinMap.{empty}
use Rattle.hpr_syntax.specs.Grammar.{tagged}
use Rattle.hpr_syntax.specs.Meaning.{Ends, Keeps}
use Rattle.hpr_syntax.specs.Run.{FinalValues}
use Rattle.hpr_syntax.specs.Spelling.{Spells}
use Rattle.hpr_syntax.specs.Tree.{Tree}
use Rattle.hpr_meaning.specs.Any.Kept as any
use Rattle.hpr_any.specs.MeaningOf.{MeaningOf, by_reads}

pub record IsMerged (base a b merged : List ℕ) : Type 0 where
  pub base_program : Tree
  pub a_program : Tree
  pub b_program : Tree
  pub merged_program : Tree
  pub base_is : Spells tagged base base_program
  pub a_is : Spells tagged a a_program
  pub b_is : Spells tagged b b_program
  pub merged_is : Spells tagged merged merged_program
  pub keeps : Keeps base_program a_program b_program merged_program

pub record IsMergedForEvery (V F : Type 0) (base a b merged : List ℕ) : Type 0 where
  pub base_program : Tree
  pub a_program : Tree
  pub b_program : Tree
  pub merged_program : Tree
  pub base_is : Spells tagged base base_program
  pub a_is : Spells tagged a a_program
  pub b_is : Spells tagged b b_program
  pub merged_is : Spells tagged merged merged_program
  pub keeps : (m : MeaningOf V F) → any.Keeps (by_reads m) base_program a_program b_program merged_program

abbrev pub EndsWith : List ℕ → ℕ → FinalValues → Type 0
EndsWith text steps finals = (p : Tree) × Spells tagged text p × Ends p empty steps finals

abbrev pub MayEndWith : List ℕ → ℕ → Option FinalValues → Type 0
MayEndWith text steps (Some finals) = EndsWith text steps finals
MayEndWith text steps None = Unit {0}
