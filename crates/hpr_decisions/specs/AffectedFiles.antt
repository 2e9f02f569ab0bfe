-- What `affected` decides.
--
-- AffectedPoints base p a q r    == r prints the affected points of the graph of the program q of the file a,
--                                   where the program of the file base is p, unless one of their graphs has
--                                   too many edges
-- AffectedOutcome files base a r == that, of the programs that two files spell, read in order
use Rattle.hpr_io.specs.Files.{Files}
use Rattle.hpr_syntax.specs.Tree.{Tree}
use Rattle.hpr_graph.specs.Points.{IsAffected}
use Rattle.hpr_graph.specs.ProgramGraph.{graph_of}
use Rattle.hpr_report.specs.AffectedText.{IsAffectedText}
use Rattle.hpr_words.specs.Request.{Text}
use Rattle.hpr_inputs.specs.Decision.{Decision, Prints}
use Rattle.hpr_decisions.specs.Graphs.{OnGraph}
use Rattle.hpr_inputs.specs.Files.{OnFile}

abbrev pub AffectedPoints : Text → Tree → Text → Tree → Decision → Type 0
AffectedPoints base p a q r = OnGraph base p (OnGraph a q (Prints (IsAffectedText (IsAffected (graph_of q) (graph_of p))) r) r) r

abbrev pub AffectedOutcome : Files → Text → Text → Decision → Type 0
AffectedOutcome files base a r = OnFile files base (λ p. OnFile files a (λ q. AffectedPoints base p a q r) r) r
