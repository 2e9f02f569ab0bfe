-- How the top call ends: what it ensures, clause by clause, of words as texts.
--
-- WhereCalled texts told P == P of the request that the texts are taken as and of the files that the shelf
--                             tells: where they are one, and it tells them
-- EndsAsHpr texts told s before now out err == a call of hpr_app::hpr with these words over a shelf that
--                                              tells these files may end so: each clause of its contract,
--                                              under its name. `before` and `now` are the shelf's counts of
--                                              failures, and `out` and `err` what the sinks became
use Rattle.std.specs.Prelude.{◌≡◌, ◌≢◌, ◌<◌, ◌⊎◌, ◌↔◌, ℕ, List, Option, Some, None, IfSome}
use Rattle.hpr_io.specs.Counts.{Rose}
use Rattle.hpr_io.specs.Files.{Files}
use Rattle.hpr_io.specs.Taken.{taken_then}
use Rattle.hpr_graph.specs.Answer as answers
use Rattle.hpr_words.specs.Plain as known
use Rattle.hpr_words.specs.Request.{Request, Text}
use Rattle.hpr_words.specs.Taken.{taken}
use Rattle.hpr_inputs.specs.Decision.{refuses}
use Rattle.hpr_decisions.specs.Asked.{Took}
use Rattle.hpr_decisions.specs.Complete.{IsRefusedCall, PrintsOther, RequestCompletes, UnlessFailed}
use Rattle.hpr_decisions.specs.Ends.{Change, Ends}
use Rattle.hpr_decisions.specs.Integrate.{no_program_text, spent_text}
use Rattle.hpr_decisions.specs.LeftText.{PrintsLeft}
use Rattle.hpr_decisions.specs.MergedText.{PrintsMerged}
use Rattle.hpr_decisions.specs.Outcome.{Outcome, OutcomeIfTold, RequestOutcome}
use Rattle.hpr_decisions.specs.Reads.{MayReadIfTaken, ReadsNothing}
use Rattle.hpr_decisions.specs.Reports.{ConflictOf, HasAnswer, HasConflict, HasSpentLeaves, IsInterference, tries_of}
use Rattle.hpr_decisions.specs.SliceTheorem.{DoesSlice}
use Rattle.hpr_decisions.specs.Statuses.{IsStatusOf}
use Rattle.hpr_decisions.specs.Theorem.{KeepsAllMeaning, KeepsMeaning}
use Rattle.hpr_decisions.specs.TrialKeeps.{EndsTrial, KeepsTrial}
use Rattle.hpr_decisions.specs.VerifyKeeps.{HasVerified, IsRejected}
use Rattle.hpr_decisions.specs.declared.status.Status.{Status}
use Rattle.hpr_decisions.specs.declared.status.Status.TheVariants as statuses

abbrev pub WhereCalled : List Text → Option Files → (Request → Files → Type 0) → Type 0
WhereCalled texts told P =
    (request : Request) (files : Files) → taken texts ≡ Some request → told ≡ Some files → P request files

pub record EndsAsHpr (texts : List Text) (told : Option Files) (s : Status) (before now : ℕ)
    (out err : Change) : Type 0 where
  pub ends : Ends s (OutcomeIfTold (taken texts) told) (MayReadIfTaken (taken texts) told) before now out err
  pub words : s ≢ statuses.Memory → ((s ≡ statuses.Words) ↔ (taken texts ≡ None))
  pub plain : (request : Request) → known.plain texts ≡ Some request → s ≢ statuses.Words
  pub read : s ≡ statuses.ReadFault → Rose before now
  pub write : s ≡ statuses.WriteFault → Rose out.before out.now
  pub read_grew : before < now → (s ≡ statuses.ReadFault) ⊎ (s ≡ statuses.Memory)
  pub write_grew : out.before < out.now → s ≡ statuses.WriteFault
  pub status : IfSome (taken texts) (λ request. IsStatusOf request s)
  pub unread : ReadsNothing (taken texts) → (files : Files)
      → Ends s (Outcome (taken texts) files) (MayReadIfTaken (taken texts) told) before now out err
  pub unread_count : ReadsNothing (taken texts) → now ≡ before
  pub complete : WhereCalled texts told (λ request files. UnlessFailed before now out.before out.now s
      (RequestCompletes request files out.old out.new s))
  pub one_side : WhereCalled texts told (λ request files. UnlessFailed before now out.before out.now s
      (PrintsOther request files out.old out.new s))
  pub conflict : WhereCalled texts told (λ request files. HasConflict request files
      → UnlessFailed before now out.before out.now s (s ≡ statuses.Interference))
  pub interferes : WhereCalled texts told (λ request files. (cs : List (ConflictOf request))
      → HasAnswer request files (answers.interference cs)
      → UnlessFailed before now out.before out.now s (IsInterference request cs out.old out.new s))
  pub interference : WhereCalled texts told (λ request files. s ≡ statuses.Interference
      → (cs : List (ConflictOf request)) × HasAnswer request files (answers.interference cs)
      × IsInterference request cs out.old out.new s)
  pub no_program : WhereCalled texts told (λ request files. s ≡ statuses.NoProgram
      → (parts : ℕ) × HasAnswer request files (answers.no_program parts)
      × (out.new ≡ taken_then out.old (no_program_text parts)))
  pub spent : WhereCalled texts told (λ request files. s ≡ statuses.Spent
      → HasAnswer request files answers.spent × (out.new ≡ taken_then out.old (spent_text (tries_of request))))
  pub leaves : WhereCalled texts told (λ request files. s ≡ statuses.Spent → HasSpentLeaves request files)
  pub refused : (message : List ℕ) → WhereCalled texts told (λ request files.
      RequestOutcome request files (refuses message) → ¬ Rose before now → IsRefusedCall message s err)
  pub keeps : WhereCalled texts told (λ request files. s ≡ statuses.Done
      → Took out.old out.new (KeepsMeaning request files))
  pub keeps_all : WhereCalled texts told (λ request files. s ≡ statuses.Done
      → Took out.old out.new (KeepsAllMeaning request files))
  pub merged : WhereCalled texts told (λ request files. s ≡ statuses.Done
      → Took out.old out.new (PrintsMerged request files))
  pub left : WhereCalled texts told (λ request files. s ≡ statuses.Done
      → Took out.old out.new (PrintsLeft request files))
  pub slices : WhereCalled texts told (λ request files. s ≡ statuses.Done
      → Took out.old out.new (DoesSlice request files))
  pub trial_ends : WhereCalled texts told (λ request files. EndsTrial request files s)
  pub trial : WhereCalled texts told (λ request files. s ≡ statuses.Done
      → Took out.old out.new (KeepsTrial request files))
  pub verified : WhereCalled texts told (λ request files. s ≡ statuses.Done → HasVerified request files)
  pub rejected : WhereCalled texts told (λ request files. s ≡ statuses.Rejected
      → Took out.old out.new (IsRejected request files))
