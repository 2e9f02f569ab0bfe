-- What is found of a request.
--
-- StopIs P stop              == what a stop tells is a finding of P; or memory ran out
-- FoundIs P found            == what is found is a finding of P; points are numbers of vertices of the graph;
--                               and so is a graph, by its vertices and its edges in their order
-- Comes P result             == the same of a result
-- AreAllTexts files names ps == the first texts with these names spell these programs, and there are no more
-- Spelled bytes file result  == the program that the bytes of a text spell; or why this name is refused
-- ComesToProgram files file result == the program of the first text with this name; or why there is none
-- ComesToPrograms files names result == the same of all these names
-- ComesToState words result  == the state that these words tell; or the first one that is refused
-- ComesToGraph file p result == the graph of the program p, which hasn't too many edges; or it has
use Rattle.std.specs.Prelude.{◌≡◌, ◌<◌, ℕ, List, [], ◌∷◌, All, length, Some, Result, Ok, Err, Vec, string_bytes}
use Rattle.std.specs.Global.{Global}
use Rattle.hpr_io.specs.Files.{Files, lookup}
use Rattle.hpr_syntax.specs.Tree.{Tree}
use Rattle.hpr_syntax.specs.Values.{Values}
use Rattle.hpr_graph.specs.declared.edge.Edge.{Edge}
use Rattle.hpr_graph.specs.declared.vertex.Vertex.{Vertex}
use Rattle.hpr_graph.specs.Graphs.{Same}
use Rattle.hpr_graph.specs.InOrder.{AreEdgesOf, AreVerticesOf}
use Rattle.hpr_graph.specs.Numbered.{IsOneOf, Numbered, graph_in}
use Rattle.hpr_graph.specs.ProgramGraph.{graph_of}
use Rattle.hpr_engine.specs.Limit.{HasTooManyEdges}
use Rattle.hpr_report.specs.AffectedText.{ArePoints}
use Rattle.hpr_refusals.specs.Refusals.{IsFileOf}
use Rattle.hpr_run.specs.Outcomes.{outcome_of}
use Rattle.hpr_words.specs.Request.{Text}
use Rattle.hpr_inputs.specs.States.{states_of}
use Rattle.hpr_data.specs.Findings.{Finding, no_call, word_refused, absent, refused, too_large, merged, conflicting, unmatched, over_budget, affects, graphed, judged, ran, OnAllTexts, OnBytes, OnText, OnWords}
use Rattle.hpr_data.specs.declared.found.Found.{Found}
use Rattle.hpr_data.specs.declared.found.Found.TheVariants as found
use Rattle.hpr_data.specs.declared.found.Stop.{Stop}
use Rattle.hpr_data.specs.declared.found.Stop.TheVariants as stop

abbrev pub StopIs : (Finding → Type 0) → Stop → Type 0
StopIs P stop.NoCall = P no_call
StopIs P (stop.Word message) = P (word_refused (string_bytes message))
StopIs P (stop.Absent file) = P (absent file.now)
StopIs P (stop.Refused file why) = P (refused file.now why)
StopIs P (stop.TooManyEdges file) = P (too_large file.now)
StopIs P stop.Memory = Unit {0}

abbrev pub FoundIs : (Finding → Type 0) → Found → Type 0
FoundIs P (found.Merged m) = P (merged m)
FoundIs P (found.Interference cs) = P (conflicting cs.items)
FoundIs P (found.NoProgram n) = P (unmatched n)
FoundIs P (found.Spent tries) = P (over_budget tries)
FoundIs P (found.Affected g numbers) =
    All (λ n. n < length g.vertices) numbers.items × ((vs : List Vertex) → ArePoints (IsOneOf g numbers.items) vs → P (affects vs))
FoundIs P (found.Graph g) = (vs : List Vertex) (es : List Edge) → AreVerticesOf (graph_in g) vs → AreEdgesOf (graph_in g) es → P (graphed vs es)
FoundIs P (found.Judged v) = P (judged v)
FoundIs P (found.Ran o) = P (ran (outcome_of o))

abbrev pub Comes : (Finding → Type 0) → Result Found Stop → Type 0
Comes P (Ok f) = FoundIs P f
Comes P (Err s) = StopIs P s

abbrev pub AreAllTexts : Files → List Text → List Tree → Type 0
AreAllTexts files [] [] = Unit {0}
AreAllTexts files (file ∷ names) (p ∷ ps) =
    ((bytes : List ℕ) × (lookup files file ≡ Some bytes) × IsFileOf bytes p) × AreAllTexts files names ps
AreAllTexts files _ _ = ⊥

abbrev pub Spelled : List ℕ → Text → Result Tree Stop → Type 0
Spelled bytes file (Ok p) = IsFileOf bytes p
Spelled bytes file (Err s) = StopIs (OnBytes (Some bytes) file (λ p. ⊥)) s

abbrev pub ComesToProgram : Files → Text → Result Tree Stop → Type 0
ComesToProgram files file (Ok p) = (bytes : List ℕ) × (lookup files file ≡ Some bytes) × IsFileOf bytes p
ComesToProgram files file (Err s) = StopIs (OnText files file (λ p. ⊥)) s

abbrev pub ComesToPrograms : Files → List Text → Result (Vec Tree Global) Stop → Type 0
ComesToPrograms files names (Ok ps) = AreAllTexts files names ps.items
ComesToPrograms files names (Err s) = StopIs (OnAllTexts files names (λ ps. ⊥)) s

abbrev pub ComesToState : List Text → Result Values Stop → Type 0
ComesToState words (Ok state) = states_of words ≡ Ok state
ComesToState words (Err s) = StopIs (OnWords (states_of words) (λ state. ⊥)) s

abbrev pub ComesToGraph : Text → Tree → Result Numbered Stop → Type 0
ComesToGraph file p (Ok g) = Same (graph_in g) (graph_of p) × (HasTooManyEdges p → ⊥)
ComesToGraph file p (Err s) = StopIs (λ f. HasTooManyEdges p × (f ≡ too_large file)) s
