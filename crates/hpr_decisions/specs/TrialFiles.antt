-- What `trial` decides.
--
-- steps_of o, finals_of o          == the steps that a run took; its final values, and none where it doesn't
--                                     end
-- has_ended o, have_ended o o1 o2  == the run ends; all three do
-- trial_line word o                == how a run went, without its values, behind the word for its program: a
--                                     line
-- three_lines o o1 o2              == the lines of base, A and B
-- IsTrialText o o1 o2 om text      == the text has these three, the line of the merged program and the table
--                                     of the final values
-- ShowsTrial o o1 o2 om r          == r prints that where base, A and B end; and else only their lines
-- IsTrialOf p q s m state steps r  == r shows the runs of base, A and B from the state, each with so many
--                                     steps to spend, and that of the merged program m with as many as the
--                                     three took together
-- IsTrialBy p q s state steps x r  == where the answer is a program, r is so of it; else r reports the answer
-- IsTried p q s state steps r      == that is so of an answer of the integration of the three programs
-- TrialOutcome files base a b words steps r == that, of the state that the words tell and the programs that
--                                              three files spell, read in order, whose graphs haven't too
--                                              many edges
use Rattle.std.specs.Prelude.{◌≡◌, ℕ, ◌+◌, Bool, true, false, ◌&&◌, List, [], ◌++◌, codes}
use Rattle.hpr_terms.specs.declared.limits.TheConstants.{DEFAULT_TRIES}
use Rattle.hpr_io.specs.Files.{Files}
use Rattle.hpr_syntax.specs.Run.{FinalValues, Outcome, ends, faults, more, run}
use Rattle.hpr_syntax.specs.Tree.{Tree}
use Rattle.hpr_syntax.specs.Values.{Values}
use Rattle.hpr_graph.specs.Answer.{Answer, interference, printed, no_program, spent, IsAnswer}
use Rattle.hpr_report.specs.TableText.{IsTableText}
use Rattle.hpr_report.specs.Texts.{outcome_line}
use Rattle.hpr_words.specs.Request.{Text}
use Rattle.hpr_inputs.specs.Decision.{Decision, Prints, prints}
use Rattle.hpr_inputs.specs.Files.{OnFiles}
use Rattle.hpr_decisions.specs.Graphs.{OnGraphs}
use Rattle.hpr_decisions.specs.Integrate.{report}
use Rattle.hpr_inputs.specs.States.{OnState, states_of}
use Rattle.hpr_inputs.specs.declared.answer.Kind.TheVariants.{NotEnded}

abbrev pub steps_of : Outcome → ℕ
steps_of (ends finals steps) = steps
steps_of (faults tag fault steps) = steps
steps_of (more steps) = steps

abbrev pub finals_of : Outcome → FinalValues
finals_of (ends finals steps) = finals
finals_of (faults tag fault steps) = []
finals_of (more steps) = []

abbrev pub has_ended : Outcome → Bool
has_ended (ends finals steps) = true
has_ended (faults tag fault steps) = false
has_ended (more steps) = false

abbrev pub have_ended : Outcome → Outcome → Outcome → Bool
have_ended o o1 o2 = has_ended o && (has_ended o1 && has_ended o2)

abbrev pub trial_line : List ℕ → Outcome → List ℕ
trial_line word o = word ++ outcome_line o

abbrev pub three_lines : Outcome → Outcome → Outcome → List ℕ
three_lines o o1 o2 = trial_line (codes "base ") o ++ trial_line (codes "A ") o1 ++ trial_line (codes "B ") o2

abbrev pub IsTrialText : Outcome → Outcome → Outcome → Outcome → List ℕ → Type 0
IsTrialText o o1 o2 om text =
    (table : List ℕ) × IsTableText (finals_of o) (finals_of o1) (finals_of o2) (finals_of om) table
    × (text ≡ three_lines o o1 o2 ++ trial_line (codes "merged ") om ++ table)

abbrev pub ShowsIf : Bool → Outcome → Outcome → Outcome → Outcome → Decision → Type 0
ShowsIf true o o1 o2 om r = Prints (IsTrialText o o1 o2 om) r
ShowsIf false o o1 o2 om r = r ≡ prints NotEnded (three_lines o o1 o2)

abbrev pub ShowsTrial : Outcome → Outcome → Outcome → Outcome → Decision → Type 0
ShowsTrial o o1 o2 om r = ShowsIf (have_ended o o1 o2) o o1 o2 om r

abbrev pub steps_together : Outcome → Outcome → Outcome → ℕ
steps_together o o1 o2 = steps_of o + steps_of o1 + steps_of o2

abbrev pub IsTrialOf : Tree → Tree → Tree → Tree → Values → ℕ → Decision → Type 0
IsTrialOf p q s m state steps r =
    ShowsTrial (run p state steps) (run q state steps) (run s state steps)
    (run m state (steps_together (run p state steps) (run q state steps) (run s state steps))) r

abbrev pub IsTrialBy : Tree → Tree → Tree → Values → ℕ → Answer → Decision → Type 0
IsTrialBy p q s state steps (interference cs) r = r ≡ report DEFAULT_TRIES (interference cs)
IsTrialBy p q s state steps (printed m) r = IsTrialOf p q s m state steps r
IsTrialBy p q s state steps (no_program n) r = r ≡ report DEFAULT_TRIES (no_program n)
IsTrialBy p q s state steps spent r = r ≡ report DEFAULT_TRIES spent

abbrev pub IsTried : Tree → Tree → Tree → Values → ℕ → Decision → Type 0
IsTried p q s state steps r = (x : Answer) × IsAnswer p q s DEFAULT_TRIES x × IsTrialBy p q s state steps x r

abbrev pub Tried : Text → Tree → Text → Tree → Text → Tree → Values → ℕ → Decision → Type 0
Tried base p a q b s state steps r = OnGraphs base p a q b s (IsTried p q s state steps r) r

abbrev pub TrialOutcome : Files → Text → Text → Text → List Text → ℕ → Decision → Type 0
TrialOutcome files base a b words steps r =
    OnState (states_of words) (λ state. OnFiles files base a b (λ p q s. Tried base p a q b s state steps r) r) r
