-- What `slice` decides.
--
-- IsLeftText p part bytes                  == the bytes are the canonical text of what the vertices of the
--                                             graph part leave of the program p
-- IsSliceShown program p part bytes        == the bytes are that text where the program is asked for, and
--                                             else the text of the graph part
-- Sliced file p points program r           == r prints the slice of the graph of the program p of a file at
--                                             the vertices that the points name, as a graph or as a program,
--                                             unless the graph has too many edges or a point names none
-- SliceOutcome files file points program r == that, of the program that the file spells
use Rattle.std.specs.Prelude.{◌≡◌, ℕ, Bool, true, false, List}
use Rattle.hpr_io.specs.Files.{Files}
use Rattle.hpr_syntax.specs.Print.{text}
use Rattle.hpr_syntax.specs.Tree.{Tree}
use Rattle.hpr_graph.specs.Graphs.{Graph}
use Rattle.hpr_graph.specs.ProgramGraph.{graph_of}
use Rattle.hpr_graph.specs.Slices.{slice_of}
use Rattle.hpr_prune.specs.Programs.{IsPruned}
use Rattle.hpr_report.specs.GraphTexts.{IsGraphText}
use Rattle.hpr_words.specs.Request.{Text}
use Rattle.hpr_inputs.specs.Decision.{Decision, Prints}
use Rattle.hpr_decisions.specs.Graphs.{OnGraph}
use Rattle.hpr_inputs.specs.Files.{OnFile}
use Rattle.hpr_inputs.specs.Points.{IsPoint, OnPoints}

abbrev pub IsLeftText : Tree → Graph → List ℕ → Type 0
IsLeftText p part bytes = (q : Tree) × IsPruned part.vertex p q × (bytes ≡ text q)

abbrev pub IsSliceShown : Bool → Tree → Graph → List ℕ → Type 0
IsSliceShown true p part bytes = IsLeftText p part bytes
IsSliceShown false p part bytes = IsGraphText part bytes

abbrev pub Sliced : Text → Tree → List Text → Bool → Decision → Type 0
Sliced file p points program r =
    OnGraph file p (OnPoints (graph_of p) points (Prints (IsSliceShown program p (slice_of (graph_of p) (IsPoint points))) r) r) r

abbrev pub SliceOutcome : Files → Text → List Text → Bool → Decision → Type 0
SliceOutcome files file points program r = OnFile files file (λ p. Sliced file p points program r) r
