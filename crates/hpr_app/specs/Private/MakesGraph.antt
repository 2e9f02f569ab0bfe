-- What making the graph of a file's program comes to.
--
-- RefusesGraph file stop     == the file is refused for a graph with too many edges; or memory ran out
-- FailsGraph file p stop     == the same, where the graph of the program p is such a graph
-- MakesGraph file p result   == the graph of the program p, which hasn't too many edges; or it has, and the
--                               file is refused; or memory ran out
use Rattle.std.specs.Prelude.{◌≡◌, ℕ, List, Result, Ok, Err, string_bytes}
use Rattle.hpr_syntax.specs.Tree.{Tree}
use Rattle.hpr_graph.specs.Graphs.{Same}
use Rattle.hpr_graph.specs.Numbered.{Numbered, graph_in}
use Rattle.hpr_graph.specs.ProgramGraph.{graph_of}
use Rattle.hpr_engine.specs.Limit.{HasTooManyEdges}
use Rattle.hpr_decisions.specs.Graphs.{too_many_edges}
use Rattle.hpr_inputs.specs.declared.answer.Stop.{Stop}
use Rattle.hpr_inputs.specs.declared.answer.Stop.TheVariants as stop

abbrev pub RefusesGraph : List ℕ → Stop → Type 0
RefusesGraph file (stop.Refused message) = string_bytes message ≡ too_many_edges file
RefusesGraph file (stop.ReadFault message) = ⊥
RefusesGraph file stop.Memory = Unit {0}

abbrev pub FailsGraph : List ℕ → Tree → Stop → Type 0
FailsGraph file p (stop.Refused message) = HasTooManyEdges p × (string_bytes message ≡ too_many_edges file)
FailsGraph file p (stop.ReadFault message) = ⊥
FailsGraph file p stop.Memory = Unit {0}

abbrev pub MakesGraph : List ℕ → Tree → Result Numbered Stop → Type 0
MakesGraph file p (Ok g) = Same (graph_in g) (graph_of p) × (HasTooManyEdges p → ⊥)
MakesGraph file p (Err s) = FailsGraph file p s
