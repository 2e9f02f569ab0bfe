-- What is told of what is found.
--
-- HasPoints found      == points are numbers of vertices of the graph
-- ToldAs found reply   == the reply tells what is found
-- StoppedAs stop reply == it tells why nothing is found
use Rattle.std.specs.Prelude.{◌<◌, List, All, length, string_bytes}
use Rattle.hpr_graph.specs.declared.edge.Edge.{Edge}
use Rattle.hpr_graph.specs.declared.vertex.Vertex.{Vertex}
use Rattle.hpr_graph.specs.InOrder.{AreEdgesOf, AreVerticesOf}
use Rattle.hpr_graph.specs.Numbered.{IsOneOf, graph_in}
use Rattle.hpr_report.specs.AffectedText.{ArePoints}
use Rattle.hpr_run.specs.Outcomes.{outcome_of}
use Rattle.hpr_data.specs.Findings.{no_call, word_refused, absent, refused, too_large, merged, conflicting, unmatched, over_budget, affects, graphed, judged, ran}
use Rattle.hpr_data.specs.Told.{Tells}
use Rattle.hpr_data.specs.declared.found.Found.{Found}
use Rattle.hpr_data.specs.declared.found.Found.TheVariants as found
use Rattle.hpr_data.specs.declared.found.Stop.{Stop}
use Rattle.hpr_data.specs.declared.found.Stop.TheVariants as stop
use Rattle.hpr_data.specs.declared.reply.Reply.{Reply}

abbrev pub HasPoints : Found → Type 0
HasPoints (found.Merged m) = Unit {0}
HasPoints (found.Interference cs) = Unit {0}
HasPoints (found.NoProgram n) = Unit {0}
HasPoints (found.Spent tries) = Unit {0}
HasPoints (found.Affected g numbers) = All (λ n. n < length g.vertices) numbers.items
HasPoints (found.Graph g) = Unit {0}
HasPoints (found.Judged v) = Unit {0}
HasPoints (found.Ran o) = Unit {0}

abbrev pub ToldAs : Found → Reply → Type 0
ToldAs (found.Merged m) reply = Tells (merged m) reply
ToldAs (found.Interference cs) reply = Tells (conflicting cs.items) reply
ToldAs (found.NoProgram n) reply = Tells (unmatched n) reply
ToldAs (found.Spent tries) reply = Tells (over_budget tries) reply
ToldAs (found.Affected g numbers) reply = (vs : List Vertex) × ArePoints (IsOneOf g numbers.items) vs × Tells (affects vs) reply
ToldAs (found.Graph g) reply =
    (vs : List Vertex) × (es : List Edge) × AreVerticesOf (graph_in g) vs × AreEdgesOf (graph_in g) es × Tells (graphed vs es) reply
ToldAs (found.Judged v) reply = Tells (judged v) reply
ToldAs (found.Ran o) reply = Tells (ran (outcome_of o)) reply

abbrev pub StoppedAs : Stop → Reply → Type 0
StoppedAs stop.NoCall reply = Tells no_call reply
StoppedAs (stop.Word message) reply = Tells (word_refused (string_bytes message)) reply
StoppedAs (stop.Absent file) reply = Tells (absent file.now) reply
StoppedAs (stop.Refused file why) reply = Tells (refused file.now why) reply
StoppedAs (stop.TooManyEdges file) reply = Tells (too_large file.now) reply
StoppedAs stop.Memory reply = ⊥
