-- The graph of the program that is printed.
--
-- HasMergedGraph files base names bytes == base's file and the variants' are accepted and spell programs,
--                                          without a conflict, and the bytes spell a program whose graph is
--                                          their merged graph, in which the parts that are split off are
--                                          under their new tags
-- PrintsMerged request files bytes == for `integrate`: the bytes are such a text, of the files that it names
use Rattle.std.specs.Prelude.{ℕ, List, [], ◌∷◌}
use Rattle.hpr_io.specs.Files.{Files, bytes_of}
use Rattle.hpr_terms.specs.declared.tag.Tag.{Tag}
use Rattle.hpr_syntax.specs.Tree.{Tree}
use Rattle.hpr_syntax.specs.Shape.{IsProgram}
use Rattle.hpr_syntax.specs.Grammar.{tagged}
use Rattle.hpr_syntax.specs.Spelling.{Spells}
use Rattle.hpr_graph.specs.declared.vertex.Vertex.{Vertex}
use Rattle.hpr_graph.specs.Answer.{Fits, AreSplitOff, graphs_of, searched_graph_of}
use Rattle.hpr_graph.specs.Conflicts.{HasNoConflict}
use Rattle.hpr_graph.specs.ProgramGraph.{graph_of}
use Rattle.hpr_refusals.specs.Refusals.{IsFileOf}
use Rattle.hpr_inputs.specs.ReadsAll.{AreAllFilesOf}
use Rattle.hpr_words.specs.Request.{Request, Text, integrate, integrate_many}

pub record HasMergedGraph (files : Files) (base : Text) (names : List Text) (bytes : List ℕ) : Type 0 where
  pub base_program : Tree
  pub variant_programs : List Tree
  pub base_is : IsFileOf (bytes_of files base) base_program
  pub variants_are : AreAllFilesOf files names variant_programs
  pub printed : Tree
  pub program : IsProgram printed
  pub spelled : Spells tagged bytes printed
  pub free : HasNoConflict (graph_of base_program) (graphs_of variant_programs)
  pub renamed : List (Vertex × Tag)
  pub split_off : AreSplitOff base_program variant_programs renamed
  pub fits : Fits (searched_graph_of renamed base_program variant_programs) printed

abbrev pub PrintsMerged : Request → Files → List ℕ → Type 0
PrintsMerged (integrate base a b tries) files bytes = HasMergedGraph files base (a ∷ b ∷ []) bytes
PrintsMerged (integrate_many base variants tries) files bytes = HasMergedGraph files base variants bytes
PrintsMerged _ files bytes = Unit {0}
