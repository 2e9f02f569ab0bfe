-- What `run` decides.
--
-- kind_of o                            == a run that ends is done; one that faults or is spent is not ended
-- Ran p state steps trace r            == r prints the run of the program p from the state with so many steps
--                                         to spend, with its trace or without
-- RunOutcome files file words steps trace r == that, of the state that the words tell and the program that
--                                              the file spells
use Rattle.std.specs.Prelude.{◌≡◌, ℕ, Bool, List}
use Rattle.hpr_io.specs.Files.{Files}
use Rattle.hpr_syntax.specs.Run.{Outcome, ends, faults, more, run}
use Rattle.hpr_syntax.specs.Tree.{Tree}
use Rattle.hpr_syntax.specs.Values.{Values}
use Rattle.hpr_words.specs.Request.{Text}
use Rattle.hpr_inputs.specs.Decision.{Decision, prints}
use Rattle.hpr_inputs.specs.Files.{OnFile}
use Rattle.hpr_inputs.specs.States.{OnState, states_of}
use Rattle.hpr_decisions.specs.TraceText.{run_text}
use Rattle.hpr_inputs.specs.declared.answer.Kind.{Kind}
use Rattle.hpr_inputs.specs.declared.answer.Kind.TheVariants.{Done, NotEnded}

abbrev pub kind_of : Outcome → Kind
kind_of (ends finals steps) = Done
kind_of (faults tag fault steps) = NotEnded
kind_of (more steps) = NotEnded

abbrev pub Ran : Tree → Values → ℕ → Bool → Decision → Type 0
Ran p state steps trace r = r ≡ prints (kind_of (run p state steps)) (run_text p state steps trace)

abbrev pub RunOutcome : Files → Text → List Text → ℕ → Bool → Decision → Type 0
RunOutcome files file words steps trace r = OnState (states_of words) (λ state. OnFile files file (λ p. Ran p state steps trace r) r) r
