-- The program that is printed of a slice.
--
-- IsLeftOf file points bytes     == the bytes file are an accepted file that spells a program, and the bytes
--                                   are the canonical text of what the slice of its graph at the vertices
--                                   that the points name leaves of it
-- PrintsLeft request files bytes == for `slice` with a program to print: the bytes are such a text, of the
--                                   file that it names
use Rattle.std.specs.Prelude.{◌≡◌, ℕ, true, List, All}
use Rattle.hpr_io.specs.Files.{Files, bytes_of}
use Rattle.hpr_syntax.specs.Print.{text}
use Rattle.hpr_syntax.specs.Tree.{Tree}
use Rattle.hpr_graph.specs.ProgramGraph.{graph_of}
use Rattle.hpr_graph.specs.Slices.{slice_of}
use Rattle.hpr_prune.specs.Programs.{IsPruned}
use Rattle.hpr_refusals.specs.Refusals.{IsFileOf}
use Rattle.hpr_inputs.specs.Points.{IsNamed, IsPoint}
use Rattle.hpr_words.specs.Request.{Request, Text, slice}

pub record IsLeftOf (file : List ℕ) (points : List Text) (bytes : List ℕ) : Type 0 where
  pub whole : Tree
  pub file_is : IsFileOf file whole
  pub named : All (IsNamed (graph_of whole)) points
  pub left : Tree
  pub pruned : IsPruned (slice_of (graph_of whole) (IsPoint points)).vertex whole left
  pub printed : bytes ≡ text left

abbrev pub PrintsLeft : Request → Files → List ℕ → Type 0
PrintsLeft (slice file points true) files bytes = IsLeftOf (bytes_of files file) points bytes
PrintsLeft _ files bytes = Unit {0}
