-- How a finding is told.
--
-- verdict_status v             == the status of a verdict
-- status_of f                  == its status
-- data_of f                    == its object
-- Tells f reply                == the reply has this status, and its text is the line of this object
-- IsReply request files reply  == it tells what comes of the request over these texts
-- TellsKept request files text == the text is the line of a merged program, and the canonical text in it
--                                 spells one that keeps the meaning of all variants
use Rattle.std.specs.Prelude.{◌≡◌, ℕ, List, Option}
use Rattle.hpr_io.specs.Files.{Files}
use Rattle.hpr_syntax.specs.Print.{text}
use Rattle.hpr_verify.specs.declared.verdict.Verdict.{Verdict}
use Rattle.hpr_verify.specs.declared.verdict.Verdict.TheVariants as verdict
use Rattle.hpr_words.specs.Request.{Request}
use Rattle.hpr_decisions.specs.Ends.{status_of_kind}
use Rattle.hpr_decisions.specs.RunFile.{kind_of}
use Rattle.hpr_decisions.specs.Theorem.{KeepsAllMeaning, KeepsMeaning}
use Rattle.hpr_decisions.specs.declared.status.Status.{Status}
use Rattle.hpr_decisions.specs.declared.status.Status.TheVariants.{Done, Interference, NoProgram, ReadFault, Refused, Rejected, Spent, Words}
use Rattle.serde_json.specs.Data.{Data}
use Rattle.hpr_json.specs.Answers.{conflicts_data, graph_data, json_line, no_program_data, points_data, program_data, spent_data}
use Rattle.hpr_json.specs.Outcomes.{outcome_data}
use Rattle.hpr_json.specs.Verdicts.{verdict_data}
use Rattle.hpr_json.specs.Refusals.{absent_data, edges_data, refusal_data, state_data, words_data}
use Rattle.hpr_data.specs.Findings.{Finding, Finds, no_call, word_refused, absent, refused, too_large, merged, conflicting, unmatched, over_budget, affects, graphed, judged, ran}
use Rattle.hpr_data.specs.declared.reply.Reply.{Reply}

abbrev pub verdict_status : Verdict → Status
verdict_status verdict.Same = Done
verdict_status _ = Rejected

abbrev pub status_of : Finding → Status
status_of no_call = Words
status_of (word_refused message) = Refused
status_of (absent file) = ReadFault
status_of (refused file why) = Refused
status_of (too_large file) = Refused
status_of (merged m) = Done
status_of (conflicting cs) = Interference
status_of (unmatched n) = NoProgram
status_of (over_budget tries) = Spent
status_of (affects vs) = Done
status_of (graphed vs es) = Done
status_of (judged v) = verdict_status v
status_of (ran o) = status_of_kind (kind_of o)

abbrev pub data_of : Finding → Data
data_of no_call = words_data
data_of (word_refused message) = state_data message
data_of (absent file) = absent_data file
data_of (refused file why) = refusal_data file why
data_of (too_large file) = edges_data file
data_of (merged m) = program_data (text m)
data_of (conflicting cs) = conflicts_data cs
data_of (unmatched n) = no_program_data n
data_of (over_budget tries) = spent_data tries
data_of (affects vs) = points_data vs
data_of (graphed vs es) = graph_data vs es
data_of (judged v) = verdict_data v
data_of (ran o) = outcome_data o

abbrev pub Tells : Finding → Reply → Type 0
Tells f reply = (reply.status ≡ status_of f) × (reply.text.items ≡ json_line (data_of f))

abbrev pub IsReply : Option Request → Files → Reply → Type 0
IsReply request files reply = (f : Finding) × Finds request files f × Tells f reply

abbrev pub TellsKept : Request → Files → List ℕ → Type 0
TellsKept request files text =
    (bytes : List ℕ) × (text ≡ json_line (program_data bytes)) × KeepsMeaning request files bytes × KeepsAllMeaning request files bytes
