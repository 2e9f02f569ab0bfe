-- The theorem on slices as programs.
--
-- IsSliceProgram file points bytes == the bytes file are an accepted file that spells a program, and the
--                                     bytes spell one that does its part (hpr_prune): its graph is the slice
--                                     of the whole's graph at the vertices that the points name, and it does
--                                     what the whole does
-- DoesSlice request files bytes    == for `slice` with a program to print: the bytes are such a text, of the
--                                     file that it names; its points are one or more
use Rattle.std.specs.Prelude.{ℕ, true, List, ◌∷◌}
use Rattle.hpr_io.specs.Files.{Files, bytes_of}
use Rattle.hpr_syntax.specs.Tree.{Tree}
use Rattle.hpr_syntax.specs.Grammar.{tagged}
use Rattle.hpr_syntax.specs.Spelling.{Spells}
use Rattle.hpr_graph.specs.ProgramGraph.{graph_of}
use Rattle.hpr_graph.specs.Slices.{slice_of}
use Rattle.hpr_prune.specs.KeptLaw.{DoesItsPart}
use Rattle.hpr_refusals.specs.Refusals.{IsFileOf}
use Rattle.hpr_inputs.specs.Points.{IsPoint}
use Rattle.hpr_words.specs.Request.{Request, Text, slice}

pub record IsSliceProgram (file : List ℕ) (points : List Text) (bytes : List ℕ) : Type 0 where
  pub whole : Tree
  pub file_is : IsFileOf file whole
  pub left : Tree
  pub spelled : Spells tagged bytes left
  pub does : DoesItsPart whole left (slice_of (graph_of whole) (IsPoint points))

abbrev pub DoesSlice : Request → Files → List ℕ → Type 0
DoesSlice (slice file (point ∷ points) true) files bytes = IsSliceProgram (bytes_of files file) (point ∷ points) bytes
DoesSlice _ files bytes = Unit {0}
