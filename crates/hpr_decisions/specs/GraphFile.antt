-- What `graph` decides.
--
-- IsShown json g bytes            == the bytes are the text of the graph, or its JSON value where that is
--                                    asked for
-- Graphed file p json r           == r prints the graph of the program p of a file, unless it has too many
--                                    edges
-- GraphOutcome files file json r  == that, of the program that the file spells
use Rattle.std.specs.Prelude.{ℕ, Bool, true, false, List}
use Rattle.hpr_io.specs.Files.{Files}
use Rattle.hpr_syntax.specs.Tree.{Tree}
use Rattle.hpr_graph.specs.Graphs.{Graph}
use Rattle.hpr_graph.specs.ProgramGraph.{graph_of}
use Rattle.hpr_report.specs.GraphTexts.{IsGraphText}
use Rattle.hpr_report.specs.GraphJson.{IsGraphJson}
use Rattle.hpr_words.specs.Request.{Text}
use Rattle.hpr_inputs.specs.Decision.{Decision, Prints}
use Rattle.hpr_decisions.specs.Graphs.{OnGraph}
use Rattle.hpr_inputs.specs.Files.{OnFile}

abbrev pub IsShown : Bool → Graph → List ℕ → Type 0
IsShown true g bytes = IsGraphJson g bytes
IsShown false g bytes = IsGraphText g bytes

abbrev pub Graphed : Text → Tree → Bool → Decision → Type 0
Graphed file p json r = OnGraph file p (Prints (IsShown json (graph_of p)) r) r

abbrev pub GraphOutcome : Files → Text → Bool → Decision → Type 0
GraphOutcome files file json r = OnFile files file (λ p. Graphed file p json r) r
