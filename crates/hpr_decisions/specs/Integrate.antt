-- What `integrate` decides.
--
-- no_program_text n                  == what is printed where no program has the merged graph, which has so
--                                       many parts
-- spent_text tries                   == what is printed where the budget of tries is spent
-- report_with show say tries x       == what is decided by the answer x, within so many tries: its text is
--                                       printed, where `show` gives that of a program and `say` that of
--                                       conflicts
-- IsReportedWith show at say base vs tries r == r so reports an answer of the integration of a base and these
--                                               variants, where `at` tells each conflict's variant, point and
--                                               edge
-- report_by say tries x, IsReportedBy at say base vs tries r == these where the canonical text of a program
--       is printed
-- IntegratedBy at say base p names ps tries r == for the programs of base's file and the variants': a graph
--                                                with too many edges refuses its file, in this order; else r
--                                                reports an answer of their integration
-- OutcomeBy at say files base names tries r == what is so decided of the programs that these files spell
-- report tries x, IsReported base a b tries r, Integrated base p a q b s tries r,
-- IntegrateOutcome files base a b tries r == these of two variants
use Rattle.std.specs.Prelude.{◌≡◌, ℕ, List, [], ◌∷◌, ◌++◌, codes}
use Rattle.std.specs.Fmt.{decimal}
use Rattle.hpr_terms.specs.declared.limits.TheConstants.{MAX_PARTS}
use Rattle.hpr_io.specs.Files.{Files}
use Rattle.hpr_syntax.specs.Tree.{Tree}
use Rattle.hpr_syntax.specs.Print.{text}
use Rattle.hpr_graph.specs.declared.edge.Edge.{Edge}
use Rattle.hpr_graph.specs.declared.vertex.Vertex.{Vertex}
use Rattle.hpr_graph.specs.Answer.{Answer, AnswerBy, interference, printed, no_program, spent, IsAnswerBy}
use Rattle.hpr_graph.specs.Conflicts.{told_as}
use Rattle.hpr_report.specs.ConflictsText.{conflicts_text}
use Rattle.hpr_inputs.specs.Decision.{Decision, prints}
use Rattle.hpr_inputs.specs.Files.{OnFile, OnAllFiles}
use Rattle.hpr_decisions.specs.Graphs.{OnAllGraphs}
use Rattle.hpr_inputs.specs.declared.answer.Kind.TheVariants as kind

abbrev pub no_program_text : ℕ → List ℕ
no_program_text n = codes "no program with at most " ++ decimal MAX_PARTS ++ codes " parts has the merged graph, which has " ++ decimal n ++ codes " parts\n"

abbrev pub spent_text : ℕ → List ℕ
spent_text tries = codes "spent: none of the first " ++ decimal tries ++ codes " arrangements has the merged graph\n"

abbrev pub report_with : {X : Type 0} → (Tree → List ℕ) → (List X → List ℕ) → ℕ → AnswerBy X → Decision
report_with show say tries (interference cs) = prints kind.Interference (say cs)
report_with show say tries (printed m) = prints kind.Done (show m)
report_with show say tries (no_program n) = prints kind.NoProgram (no_program_text n)
report_with show say tries spent = prints kind.Spent (spent_text tries)

abbrev pub IsReportedWith : {X : Type 0} → (Tree → List ℕ) → (X → ℕ × Vertex × Edge) → (List X → List ℕ) → Tree → List Tree → ℕ → Decision → Type 0
IsReportedWith {X} show at say base vs tries r = (x : AnswerBy X) × IsAnswerBy at base vs tries x × (r ≡ report_with show say tries x)

abbrev pub report_by : {X : Type 0} → (List X → List ℕ) → ℕ → AnswerBy X → Decision
report_by say tries x = report_with text say tries x

abbrev pub IsReportedBy : {X : Type 0} → (X → ℕ × Vertex × Edge) → (List X → List ℕ) → Tree → List Tree → ℕ → Decision → Type 0
IsReportedBy at say base vs tries r = IsReportedWith text at say base vs tries r

abbrev pub IntegratedBy : {X : Type 0} → (X → ℕ × Vertex × Edge) → (List X → List ℕ) → List ℕ → Tree → List (List ℕ) → List Tree → ℕ → Decision → Type 0
IntegratedBy at say base p names ps tries r = OnAllGraphs (base ∷ names) (p ∷ ps) (IsReportedBy at say p ps tries r) r

abbrev pub OutcomeBy : {X : Type 0} → (X → ℕ × Vertex × Edge) → (List X → List ℕ) → Files → List ℕ → List (List ℕ) → ℕ → Decision → Type 0
OutcomeBy at say files base names tries r =
    OnFile files base (λ p. OnAllFiles files names (λ ps. IntegratedBy at say base p names ps tries r) r) r

abbrev pub report : ℕ → Answer → Decision
report = report_by conflicts_text

abbrev pub IsReported : Tree → Tree → Tree → ℕ → Decision → Type 0
IsReported base a b tries r = IsReportedBy told_as conflicts_text base (a ∷ b ∷ []) tries r

abbrev pub Integrated : List ℕ → Tree → List ℕ → Tree → List ℕ → Tree → ℕ → Decision → Type 0
Integrated base p a q b s tries r = IntegratedBy told_as conflicts_text base p (a ∷ b ∷ []) (q ∷ s ∷ []) tries r

abbrev pub IntegrateOutcome : Files → List ℕ → List ℕ → List ℕ → ℕ → Decision → Type 0
IntegrateOutcome files base a b tries r = OutcomeBy told_as conflicts_text files base (a ∷ b ∷ []) tries r
