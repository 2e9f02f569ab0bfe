-- The outcome of a call: the decision that the words and the files make. One case a command.
--
-- RequestOutcome request files r == r is the decision on the request, where the shelf holds these files
-- Outcome request files r        == the same, or the usage text where the words are no call
-- OutcomeIfTold request files r  == the same, for whatever files the shelf tells
-- IsSpent r, HasSearched r       == r prints that the budget of tries is spent; r prints a program or what it
--                                   does, or that there is none
-- AgreeButForBudget r s          == they are the same; or one is that the budget is spent, and the other
--                                   comes of a search that went on
-- OneDecision                    == the words and the files make one decision, but that a search may go on
--                                   past its budget or not
-- HasDecision                    == it can't be refuted that the words and the files make a decision, where a
--                                   request is in range
use Rattle.std.specs.Prelude.{◌≡◌, ◌⊎◌, ℕ, List, Option, Some, None, IfSome}
use Rattle.hpr_io.specs.Files.{Files}
use Rattle.hpr_words.specs.Request.{Request, integrate, integrate_many, run, graph, slice, affected, trial, edit, tag, sample, verify, IsInRange}
use Rattle.hpr_inputs.specs.Decision.{Decision, prints, usage}
use Rattle.hpr_decisions.specs.Integrate.{IntegrateOutcome}
use Rattle.hpr_decisions.specs.IntegrateMany.{IntegrateManyOutcome}
use Rattle.hpr_decisions.specs.RunFile.{RunOutcome}
use Rattle.hpr_decisions.specs.GraphFile.{GraphOutcome}
use Rattle.hpr_decisions.specs.SliceFile.{SliceOutcome}
use Rattle.hpr_decisions.specs.AffectedFiles.{AffectedOutcome}
use Rattle.hpr_decisions.specs.TrialFiles.{TrialOutcome}
use Rattle.hpr_decisions.specs.EditFiles.{EditOutcome, TagOutcome}
use Rattle.hpr_decisions.specs.Sampled.{SampleOutcome}
use Rattle.hpr_decisions.specs.VerifyFiles.{VerifyOutcome}
use Rattle.hpr_inputs.specs.declared.answer.Kind.TheVariants.{Done, NoProgram, Spent, NotEnded}

abbrev pub RequestOutcome : Request → Files → Decision → Type 0
RequestOutcome (integrate base a b tries) files r = IntegrateOutcome files base a b tries r
RequestOutcome (integrate_many base variants tries) files r = IntegrateManyOutcome files base variants tries r
RequestOutcome (run file states steps trace) files r = RunOutcome files file states steps trace r
RequestOutcome (graph file json) files r = GraphOutcome files file json r
RequestOutcome (slice file points program) files r = SliceOutcome files file points program r
RequestOutcome (affected base a) files r = AffectedOutcome files base a r
RequestOutcome (trial base a b states steps) files r = TrialOutcome files base a b states steps r
RequestOutcome (edit file script author) files r = EditOutcome files file script author r
RequestOutcome (tag file author) files r = TagOutcome files file author r
RequestOutcome (sample seed parts) files r = SampleOutcome seed parts r
RequestOutcome (verify base a b offered) files r = VerifyOutcome files base a b offered r

abbrev pub Outcome : Option Request → Files → Decision → Type 0
Outcome None files r = r ≡ usage
Outcome (Some request) files r = RequestOutcome request files r

abbrev pub OutcomeIfTold : Option Request → Option Files → Decision → Type 0
OutcomeIfTold request files r = (fs : Files) → files ≡ Some fs → Outcome request fs r

abbrev pub IsSpent : Decision → Type 0
IsSpent r = (text : List ℕ) × (r ≡ prints Spent text)

abbrev pub HasSearched : Decision → Type 0
HasSearched r = (text : List ℕ) × ((r ≡ prints Done text) ⊎ ((r ≡ prints NoProgram text) ⊎ (r ≡ prints NotEnded text)))

abbrev pub AgreeButForBudget : Decision → Decision → Type 0
AgreeButForBudget r s = (r ≡ s) ⊎ ((IsSpent r × HasSearched s) ⊎ (HasSearched r × IsSpent s))

abbrev pub OneDecision : Type 0
OneDecision = (request : Option Request) (files : Files) (r s : Decision) → Outcome request files r → Outcome request files s → AgreeButForBudget r s

abbrev pub HasDecision : Type 0
HasDecision = (request : Option Request) (files : Files) → IfSome request IsInRange → ¬ (¬ ((r : Decision) × Outcome request files r))
