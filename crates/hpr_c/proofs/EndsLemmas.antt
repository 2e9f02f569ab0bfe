-- From what hpr_app::hpr ensures to how a call ends, over plain variables: each clause is compared once, and with no
-- long projection in it.
--
-- Ensured strings told s before now out err == the contract of hpr_app::hpr, clause by clause in its order. Of what it
--                                            says of the shelf after the call nothing is used
use Rattle.std.proofs.Common.{◌≡◌, ◌≢◌, ◌<◌, ◌⊎◌, ◌↔◌, ℕ, List, Option, Some, None, String, IfSome, map, string_bytes, subst}
use Rattle.std.specs.Global.{Global}
use Rattle.hpr_io.specs.Counts.{Rose}
use Rattle.hpr_io.specs.Files.{Files}
use Rattle.hpr_io.specs.Taken.{taken_then}
use Rattle.hpr_graph.specs.Answer as answers
use Rattle.hpr_words.specs.Plain as known
use Rattle.hpr_words.specs.Request.{Request}
use Rattle.hpr_inputs.specs.Decision.{refuses}
use Rattle.hpr_decisions.specs.Asked.{Took, WhereAsked, asked_by}
use Rattle.hpr_decisions.specs.Complete.{IsRefusedCall, PrintsOther, RequestCompletes, UnlessFailed}
use Rattle.hpr_decisions.specs.Ends.{Change, Ends}
use Rattle.hpr_decisions.specs.Integrate.{no_program_text, spent_text}
use Rattle.hpr_decisions.specs.LeftText.{PrintsLeft}
use Rattle.hpr_decisions.specs.MergedText.{PrintsMerged}
use Rattle.hpr_decisions.specs.Outcome.{Outcome, OutcomeIfTold, RequestOutcome}
use Rattle.hpr_decisions.specs.Reads.{MayReadIfTaken, ReadsNothing}
use Rattle.hpr_decisions.specs.Reports.{ConflictOf, HasAnswer, HasConflict, HasSpentLeaves, IsInterference, tries_of}
use Rattle.hpr_decisions.specs.SliceTheorem.{DoesSlice}
use Rattle.hpr_decisions.specs.Statuses.{IsStatusOf}
use Rattle.hpr_decisions.specs.Theorem.{KeepsAllMeaning, KeepsMeaning}
use Rattle.hpr_decisions.specs.TrialKeeps.{EndsTrial, KeepsTrial}
use Rattle.hpr_decisions.specs.VerifyKeeps.{HasVerified, IsRejected}
use Rattle.hpr_decisions.specs.declared.status.Status.{Status}
use Rattle.hpr_decisions.specs.declared.status.Status.TheVariants as statuses
use Rattle.hpr_c.specs.Call.{kept}
use Rattle.hpr_c.specs.Ends.{EndsAsHpr}

abbrev pub Ensured : (same_files same_names : Type 0) → List (String Global) → Option Files → Status → (before now : ℕ) → (out err : Change) → Type 0
Ensured same_files same_names strings told s before now out err = record {
  ends : Ends s (OutcomeIfTold (asked_by strings) told) (MayReadIfTaken (asked_by strings) told) before now out err;
  same_files : same_files;
  same_names : same_names;
  words : s ≢ statuses.Memory → ((s ≡ statuses.Words) ↔ (asked_by strings ≡ None));
  plain : (asked : Request) → known.plain (map string_bytes strings) ≡ Some asked → s ≢ statuses.Words;
  read : s ≡ statuses.ReadFault → Rose before now;
  write : s ≡ statuses.WriteFault → Rose out.before out.now;
  read_grew : before < now → (s ≡ statuses.ReadFault) ⊎ (s ≡ statuses.Memory);
  write_grew : out.before < out.now → s ≡ statuses.WriteFault;
  status : IfSome (asked_by strings) (λ asked. IsStatusOf asked s);
  unread : ReadsNothing (asked_by strings) → (files : Files) → Ends s (Outcome (asked_by strings) files) (MayReadIfTaken (asked_by strings) told) before now out err;
  unread_count : ReadsNothing (asked_by strings) → now ≡ before;
  complete : WhereAsked strings told (λ asked files. UnlessFailed before now out.before out.now s (RequestCompletes asked files out.old out.new s));
  one_side : WhereAsked strings told (λ asked files. UnlessFailed before now out.before out.now s (PrintsOther asked files out.old out.new s));
  conflict : WhereAsked strings told (λ asked files. HasConflict asked files → UnlessFailed before now out.before out.now s (s ≡ statuses.Interference));
  interferes : WhereAsked strings told (λ asked files. (cs : List (ConflictOf asked)) → HasAnswer asked files (answers.interference cs)
      → UnlessFailed before now out.before out.now s (IsInterference asked cs out.old out.new s));
  interference : WhereAsked strings told (λ asked files. s ≡ statuses.Interference
      → (cs : List (ConflictOf asked)) × HasAnswer asked files (answers.interference cs) × IsInterference asked cs out.old out.new s);
  no_program : WhereAsked strings told (λ asked files. s ≡ statuses.NoProgram
      → (parts : ℕ) × HasAnswer asked files (answers.no_program parts) × (out.new ≡ taken_then out.old (no_program_text parts)));
  spent : WhereAsked strings told (λ asked files. s ≡ statuses.Spent
      → HasAnswer asked files answers.spent × (out.new ≡ taken_then out.old (spent_text (tries_of asked))));
  leaves : WhereAsked strings told (λ asked files. s ≡ statuses.Spent → HasSpentLeaves asked files);
  refused : (message : List ℕ) → WhereAsked strings told (λ asked files. RequestOutcome asked files (refuses message) → ¬ Rose before now → IsRefusedCall message s err);
  keeps : WhereAsked strings told (λ asked files. s ≡ statuses.Done → Took out.old out.new (KeepsMeaning asked files));
  keeps_all : WhereAsked strings told (λ asked files. s ≡ statuses.Done → Took out.old out.new (KeepsAllMeaning asked files));
  merged : WhereAsked strings told (λ asked files. s ≡ statuses.Done → Took out.old out.new (PrintsMerged asked files));
  left : WhereAsked strings told (λ asked files. s ≡ statuses.Done → Took out.old out.new (PrintsLeft asked files));
  slices : WhereAsked strings told (λ asked files. s ≡ statuses.Done → Took out.old out.new (DoesSlice asked files));
  trial_ends : WhereAsked strings told (λ asked files. EndsTrial asked files s);
  trial : WhereAsked strings told (λ asked files. s ≡ statuses.Done → Took out.old out.new (KeepsTrial asked files));
  verified : WhereAsked strings told (λ asked files. s ≡ statuses.Done → HasVerified asked files);
  rejected : WhereAsked strings told (λ asked files. s ≡ statuses.Rejected → Took out.old out.new (IsRejected asked files));
}

pub ends_as_hpr : (same_files same_names : Type 0) (strings : List (String Global)) (told : Option Files) (s : Status) (before now : ℕ) (out err : Change)
    → Ensured same_files same_names strings told s before now out err → EndsAsHpr (map string_bytes strings) told s before now out err
ends_as_hpr same_files same_names strings told s before now out err e = record {
  ends = e.ends;
  words = e.words;
  plain = e.plain;
  read = e.read;
  write = e.write;
  read_grew = e.read_grew;
  write_grew = e.write_grew;
  status = e.status;
  unread = e.unread;
  unread_count = e.unread_count;
  complete = e.complete;
  one_side = e.one_side;
  conflict = e.conflict;
  interferes = e.interferes;
  interference = e.interference;
  no_program = e.no_program;
  spent = e.spent;
  leaves = e.leaves;
  refused = e.refused;
  keeps = e.keeps;
  keeps_all = e.keeps_all;
  merged = e.merged;
  left = e.left;
  slices = e.slices;
  trial_ends = e.trial_ends;
  trial = e.trial;
  verified = e.verified;
  rejected = e.rejected;
}

-- the same with two sinks that took nothing before and never failed
pub quiet_ends : (texts : List (List ℕ)) (told : Option Files) (s : Status) (before now : ℕ) (out_so err_so : Change) (out err : List ℕ)
    → out_so ≡ kept out → err_so ≡ kept err → EndsAsHpr texts told s before now out_so err_so → EndsAsHpr texts told s before now (kept out) (kept err)
quiet_ends texts told s before now out_so err_so out err first second ends =
    subst (λ (k : Change). EndsAsHpr texts told s before now k (kept err)) first (subst (λ (k : Change). EndsAsHpr texts told s before now out_so k) second ends)
