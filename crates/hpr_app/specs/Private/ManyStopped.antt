-- What is decided of an integration of many variants that stops.
--
-- IsManyStopped base names tries stop r == r is what is decided of an integration that stops so: the refusal
--                                          of a file, or the report of an answer
use Rattle.std.specs.Prelude.{◌≡◌, ℕ, List, ◌∷◌, get_or}
use Rattle.hpr_report.specs.ConflictsText.{many_conflicts_text}
use Rattle.hpr_many.specs.declared.stop.ManyStop.{ManyStop}
use Rattle.hpr_many.specs.declared.stop.ManyStop.TheVariants.{TooManyEdges, Interference, NoProgram, Spent, Memory}
use Rattle.hpr_words.specs.Request.{Text}
use Rattle.hpr_inputs.specs.Decision.{Decision, prints, refuses}
use Rattle.hpr_inputs.specs.declared.answer.Kind.TheVariants as kind
use Rattle.hpr_decisions.specs.Graphs.{too_many_edges}
use Rattle.hpr_decisions.specs.Integrate.{no_program_text, spent_text}

abbrev pub IsManyStopped : Text → List Text → ℕ → ManyStop → Decision → Type 0
IsManyStopped base names tries (TooManyEdges n) r = r ≡ refuses (too_many_edges (get_or (base ∷ names) n base))
IsManyStopped base names tries (Interference cs) r = r ≡ prints kind.Interference (many_conflicts_text cs.items)
IsManyStopped base names tries (NoProgram n) r = r ≡ prints kind.NoProgram (no_program_text n)
IsManyStopped base names tries Spent r = r ≡ prints kind.Spent (spent_text tries)
IsManyStopped base names tries Memory r = ⊥
