-- What `integrate` decides of three variants or more.
--
-- Told                              == what a conflict tells: the number of its variant, from 0, its point,
--                                      and the edge that shows it
-- conflict_of t                     == this conflict, with the number of its variant from 1
-- told_text ts                      == the text of these conflicts
-- IsAnswerOfMany base vs tries x    == x is an answer of the integration of a base and these variants
-- IsReportedOfMany base vs tries r  == r reports an answer of their integration
-- IntegratedMany base p names ps tries r == for the programs of base's file and the variants': a graph with
--                                           too many edges refuses its file, in this order; else r reports an
--                                           answer of their integration
-- IntegrateManyOutcome files base names tries r == what is so decided of the programs that these files spell
use Rattle.std.specs.Prelude.{ℕ, ◌+◌, List, map}
use Rattle.hpr_io.specs.Files.{Files}
use Rattle.hpr_syntax.specs.Tree.{Tree}
use Rattle.hpr_graph.specs.declared.conflict.ManyConflict.{ManyConflict}
use Rattle.hpr_graph.specs.declared.edge.Edge.{Edge}
use Rattle.hpr_graph.specs.declared.vertex.Vertex.{Vertex}
use Rattle.hpr_graph.specs.Answer.{AnswerBy, IsAnswerBy}
use Rattle.hpr_report.specs.ConflictsText.{many_conflicts_text}
use Rattle.hpr_words.specs.Request.{Text}
use Rattle.hpr_inputs.specs.Decision.{Decision}
use Rattle.hpr_decisions.specs.Integrate.{IntegratedBy, IsReportedBy, OutcomeBy}

abbrev pub Told : Type 0
Told = ℕ × Vertex × Edge

abbrev pub conflict_of : Told → ManyConflict
conflict_of t = record { variant = t.0 + 1; point = t.1; edge = t.2 }

abbrev pub told_text : List Told → List ℕ
told_text ts = many_conflicts_text (map conflict_of ts)

abbrev pub IsAnswerOfMany : Tree → List Tree → ℕ → AnswerBy Told → Type 0
IsAnswerOfMany base vs tries x = IsAnswerBy {X = Told} (λ t. t) base vs tries x

abbrev pub IsReportedOfMany : Tree → List Tree → ℕ → Decision → Type 0
IsReportedOfMany = IsReportedBy {X = Told} (λ t. t) told_text

abbrev pub IntegratedMany : Text → Tree → List Text → List Tree → ℕ → Decision → Type 0
IntegratedMany = IntegratedBy {X = Told} (λ t. t) told_text

abbrev pub IntegrateManyOutcome : Files → Text → List Text → ℕ → Decision → Type 0
IntegrateManyOutcome = OutcomeBy {X = Told} (λ t. t) told_text
