-- The integration theorem.
--
-- IsMergedText base a b bytes      == the bytes base, a and b are accepted files that spell three programs,
--                                     and the bytes spell a program that keeps the meaning of both variants
-- KeepsMeaning request files bytes == for `integrate` of two variants: the bytes are such a text, of the
--                                     files that it names
-- IsManyMergedText files base names bytes == base's file and the variants' are accepted and spell programs,
--                                            and the bytes spell a program that keeps the meaning of all
--                                            variants
-- KeepsAllMeaning request files bytes == for `integrate` of three variants or more: the bytes are such a
--                                        text, of the files that it names
use Rattle.std.specs.Prelude.{ℕ, List}
use Rattle.hpr_io.specs.Files.{Files, bytes_of}
use Rattle.hpr_syntax.specs.Tree.{Tree}
use Rattle.hpr_syntax.specs.Shape.{IsProgram}
use Rattle.hpr_syntax.specs.Grammar.{tagged}
use Rattle.hpr_syntax.specs.Spelling.{Spells}
use Rattle.hpr_syntax.specs.Meaning.{Keeps}
use Rattle.hpr_meaning.specs.KeptLaw.{KeepsAll}
use Rattle.hpr_refusals.specs.Refusals.{IsFileOf}
use Rattle.hpr_inputs.specs.ReadsAll.{AreAllFilesOf}
use Rattle.hpr_words.specs.Request.{Request, Text, integrate, integrate_many}

pub record IsMergedText (base a b bytes : List ℕ) : Type 0 where
  pub base_program : Tree
  pub a_program : Tree
  pub b_program : Tree
  pub base_is : IsFileOf base base_program
  pub a_is : IsFileOf a a_program
  pub b_is : IsFileOf b b_program
  pub printed : Tree
  pub program : IsProgram printed
  pub spelled : Spells tagged bytes printed
  pub keeps : Keeps base_program a_program b_program printed

abbrev pub KeepsMeaning : Request → Files → List ℕ → Type 0
KeepsMeaning (integrate base a b tries) files bytes = IsMergedText (bytes_of files base) (bytes_of files a) (bytes_of files b) bytes
KeepsMeaning _ files bytes = Unit {0}

pub record IsManyMergedText (files : Files) (base : Text) (names : List Text) (bytes : List ℕ) : Type 0 where
  pub base_program : Tree
  pub variant_programs : List Tree
  pub base_is : IsFileOf (bytes_of files base) base_program
  pub variants_are : AreAllFilesOf files names variant_programs
  pub printed : Tree
  pub program : IsProgram printed
  pub spelled : Spells tagged bytes printed
  pub keeps : KeepsAll base_program variant_programs printed

abbrev pub KeepsAllMeaning : Request → Files → List ℕ → Type 0
KeepsAllMeaning (integrate_many base variants tries) files bytes = IsManyMergedText files base variants bytes
KeepsAllMeaning _ files bytes = Unit {0}
