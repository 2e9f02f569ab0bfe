-- What slicing a graph comes to.
--
-- SlicedIn p g points program r == r prints the slice of the graph g at the vertices that the points name, or
--                                  what it leaves of the program p, unless a point names none
use Rattle.std.specs.Prelude.{Bool, List}
use Rattle.hpr_syntax.specs.Tree.{Tree}
use Rattle.hpr_graph.specs.Numbered.{Numbered, graph_in}
use Rattle.hpr_graph.specs.Slices.{slice_of}
use Rattle.hpr_words.specs.Request.{Text}
use Rattle.hpr_inputs.specs.Decision.{Decision, Prints}
use Rattle.hpr_inputs.specs.Points.{IsPoint, OnPoints}
use Rattle.hpr_decisions.specs.SliceFile.{IsSliceShown}

abbrev pub SlicedIn : Tree → Numbered → List Text → Bool → Decision → Type 0
SlicedIn p g points program r =
    OnPoints (graph_in g) points (Prints (IsSliceShown program p (slice_of (graph_in g) (IsPoint points))) r) r
