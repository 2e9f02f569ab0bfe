-- A slice that is printed as a program does what the whole does there.
use Rattle.std.proofs.Common.{ℕ, true, false, List, [], ◌∷◌, Contains, subst}
use Rattle.std.proofs.lemmas.List.Elements.{All-contains}
use Rattle.hpr_terms.proofs.Facts.{in_here}
use Rattle.hpr_io.specs.Files.{Files, bytes_of}
use Rattle.hpr_syntax.specs.Shape.{IsProgram}
use Rattle.hpr_graph.specs.Graphs.{Graph}
use Rattle.hpr_graph.specs.ProgramGraph.{graph_of}
use Rattle.hpr_graph.specs.Slices.{slice_of}
use Rattle.hpr_graph.proofs.Laws.{same_itself}
use Rattle.hpr_prune.proofs.Shapes.{is_program}
use Rattle.hpr_prune.proofs.Sliced.{slice_graph, slice_kept}
use Rattle.hpr_words.specs.Request.{Request, Text, slice}
use Rattle.hpr_inputs.specs.Decision.{prints}
use Rattle.hpr_inputs.specs.Points.{IsNamed, IsPoint}
use Rattle.hpr_inputs.specs.declared.answer.Kind.TheVariants as kind
use Rattle.hpr_decisions.specs.Outcome.{RequestOutcome}
use Rattle.hpr_decisions.specs.LeftText.{IsLeftOf}
use Rattle.hpr_prune.specs.KeptLaw.{DoesItsPart}
use Rattle.hpr_decisions.specs.SliceTheorem.{DoesSlice, IsSliceProgram}
use Rattle.hpr_decisions.proofs.Theorem.{printed_spelled, request_left}

module _ (file : List ℕ) (point : Text) (points : List Text) (bytes : List ℕ) (l : IsLeftOf file (point ∷ points) bytes) where
  abbrev part : Graph
  part = slice_of (graph_of l.whole) (IsPoint (point ∷ points))

  its_program : IsProgram l.left
  its_program = is_program part.vertex l.whole l.left l.file_is.program l.pruned

  named : IsNamed (graph_of l.whole) point
  named = All-contains (IsNamed (graph_of l.whole)) (point ∷ points) point l.named (in_here point points)

  is_point : IsPoint (point ∷ points) named.0
  is_point = subst (λ (w : Text). Contains (point ∷ points) w) named.2 (in_here point points)

  does : DoesItsPart l.whole l.left part
  does = record {
    program = its_program;
    graph = slice_graph l.whole l.left part (IsPoint (point ∷ points)) l.file_is.program named.0 is_point named.1 (same_itself part) l.pruned;
    kept = slice_kept l.whole l.left part (IsPoint (point ∷ points)) l.file_is.program named.0 is_point named.1 (same_itself part) l.pruned;
  }

  sliced : IsSliceProgram file (point ∷ points) bytes
  sliced = record { whole = l.whole; file_is = l.file_is; left = l.left; spelled = printed_spelled l.left bytes its_program l.printed; does = does }

pub request_does : (request : Request) (fs : Files) (bytes : List ℕ) → RequestOutcome request fs (prints kind.Done bytes) → DoesSlice request fs bytes
request_does (slice file (point ∷ points) true) fs bytes h =
    sliced (bytes_of fs file) point points bytes (request_left (slice file (point ∷ points) true) fs bytes h)
request_does (slice file (point ∷ points) false) fs bytes h = tt
request_does (slice file [] program) fs bytes h = tt
request_does _ fs bytes h = tt
