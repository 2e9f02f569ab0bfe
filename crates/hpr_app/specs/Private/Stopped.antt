-- What is decided of an integration that stops.
--
-- file_of which base a b             == the name of the file of this program
-- IsStopped base a b tries stop r    == r is what is decided of an integration that stops so: the refusal of
--                                       a file, or the report of an answer
use Rattle.std.specs.Prelude.{◌≡◌, ℕ, List}
use Rattle.hpr_graph.specs.Answer.{interference, no_program, spent}
use Rattle.hpr_engine.specs.declared.stop.Stop.{Stop}
use Rattle.hpr_engine.specs.declared.stop.Stop.TheVariants.{TooManyEdges, Interference, NoProgram, Spent, Memory}
use Rattle.hpr_engine.specs.declared.stop.Which.{Which}
use Rattle.hpr_engine.specs.declared.stop.Which.TheVariants.{Base, A, B}
use Rattle.hpr_inputs.specs.Decision.{Decision, refuses}
use Rattle.hpr_decisions.specs.Graphs.{too_many_edges}
use Rattle.hpr_decisions.specs.Integrate.{report}

abbrev pub file_of : Which → List ℕ → List ℕ → List ℕ → List ℕ
file_of Base base a b = base
file_of A base a b = a
file_of B base a b = b

abbrev pub IsStopped : List ℕ → List ℕ → List ℕ → ℕ → Stop → Decision → Type 0
IsStopped base a b tries (TooManyEdges which) r = r ≡ refuses (too_many_edges (file_of which base a b))
IsStopped base a b tries (Interference cs) r = r ≡ report tries (interference cs.items)
IsStopped base a b tries (NoProgram n) r = r ≡ report tries (no_program n)
IsStopped base a b tries Spent r = r ≡ report tries spent
IsStopped base a b tries Memory r = ⊥
