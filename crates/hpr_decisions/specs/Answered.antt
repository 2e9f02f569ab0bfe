-- What the function of a command answers.
--
-- Answers request files before now result == the result is a decision on the request over these files, and a
--                                            failed read names one that it may read; before and now are the
--                                            shelf's counts of failures
-- AnswersInKind request result            == a report that is answered is of a kind of the request, whatever
--                                            the shelf tells
-- AnswersUnread request before now result == where the request reads nothing, no read failed, and the result
--                                            is a decision on it over whatever files
use Rattle.std.specs.Prelude.{◌≡◌, ℕ, Option, Some, Result, IfOk}
use Rattle.hpr_io.specs.Files.{Files}
use Rattle.hpr_words.specs.Request.{Request}
use Rattle.hpr_inputs.specs.Answer.{Decides, Merges}
use Rattle.hpr_inputs.specs.declared.answer.Report.{Report}
use Rattle.hpr_inputs.specs.declared.answer.Stop.{Stop}
use Rattle.hpr_decisions.specs.Outcome.{OutcomeIfTold, RequestOutcome}
use Rattle.hpr_decisions.specs.Reads.{MayRead, ReadsNothing}
use Rattle.hpr_decisions.specs.Statuses.{IsKindOf}

abbrev pub Answers : Request → Option Files → ℕ → ℕ → Result Report Stop → Type 0
Answers request files before now result = Decides (OutcomeIfTold (Some request) files) (MayRead request files) before now result

abbrev pub AnswersInKind : Request → Result Report Stop → Type 0
AnswersInKind request result = IfOk result (λ report. IsKindOf request report.kind)

abbrev pub AnswersUnread : Request → ℕ → ℕ → Result Report Stop → Type 0
AnswersUnread request before now result = ReadsNothing (Some request) → (now ≡ before) × ((files : Files) → Merges (RequestOutcome request files) result)
