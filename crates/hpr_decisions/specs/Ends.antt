-- How a call ends: one case for each status.
--
-- Change               == an object before and after a call: how often it had failed, and what it took where
--                         it tells
-- IsUntouched c        == it took nothing and did not fail
-- status_of r          == the status of a decision
-- text_of r            == its text for `out`
-- message_of r         == its message for `err`, if it has one
-- Says message err     == `err` took all of the message where no put failed, and else a prefix of it, not all
--                         of it; `either` says so also where the count stands at its last value, where none
--                         can rise
-- Decided s P .. err   == some decision r of P has the status s; no read and no write failed; `out` took the
--                         text of r, and `err` the message
-- CutShort P .. err    == a write failed: `out` took a prefix of the text of some decision of P, and not all
--                         of it
-- ReadFailed reads ..  == a read failed: `out` took nothing, and the message names a file that the call reads
-- Ends s P reads ..    == the call ends with the status s in the one case that s stands for
use Rattle.std.specs.Prelude.{◌≡◌, ◌<◌, ◌⊎◌, ℕ, List, [], Option, Some, None, codes}
use Rattle.hpr_io.specs.Counts.{Rose}
use Rattle.hpr_io.specs.Taken.{taken_then, TookStrictPrefix}
use Rattle.hpr_inputs.specs.declared.answer.Kind.{Kind}
use Rattle.hpr_inputs.specs.declared.answer.Kind.TheVariants as kind
use Rattle.hpr_decisions.specs.declared.status.Status.{Status}
use Rattle.hpr_decisions.specs.declared.status.Status.TheVariants as status
use Rattle.hpr_inputs.specs.Decision.{Decision, prints, refuses, usage}
use Rattle.hpr_inputs.specs.Files.{cannot_read}

abbrev pub usage_text : List ℕ
usage_text = codes "usage: hpr integrate BASE V1 V2.. [--tries N]\n       hpr run FILE [STATE..] [--steps N] [--trace]\n       hpr graph FILE [--json]\n       hpr slice FILE POINT.. [--program]\n       hpr affected BASE A\n       hpr trial BASE A B [STATE..] [--steps N]\n       hpr edit FILE SCRIPT --author N\n       hpr tag FILE --author N\n       hpr sample SEED PARTS\n       hpr verify BASE A B M\n"

abbrev pub cannot_write : List ℕ
cannot_write = codes "hpr: cannot write output\n"

abbrev pub no_memory : List ℕ
no_memory = codes "hpr: no memory\n"

pub record Change : Type 0 where
  pub before : ℕ
  pub now : ℕ
  pub old : Option (List ℕ)
  pub new : Option (List ℕ)

abbrev pub IsUntouched : Change → Type 0
IsUntouched c = (c.now ≡ c.before) × (c.new ≡ c.old)

abbrev pub status_of_kind : Kind → Status
status_of_kind kind.Done = status.Done
status_of_kind kind.Interference = status.Interference
status_of_kind kind.NoProgram = status.NoProgram
status_of_kind kind.Spent = status.Spent
status_of_kind kind.NotEnded = status.NotEnded
status_of_kind kind.Rejected = status.Rejected

abbrev pub status_of : Decision → Status
status_of (prints k text) = status_of_kind k
status_of (refuses message) = status.Refused
status_of usage = status.Words

abbrev pub text_of : Decision → List ℕ
text_of (prints k text) = text
text_of _ = []

abbrev pub has_text : Decision → Type 0
has_text (prints k text) = Unit {0}
has_text _ = ⊥

abbrev pub message_of : Decision → Option (List ℕ)
message_of (prints k text) = None
message_of (refuses message) = Some message
message_of usage = Some usage_text

pub record Says (message : List ℕ) (err : Change) : Type 0 where
  pub whole : (Rose err.before err.now → ⊥) → err.new ≡ taken_then err.old message
  pub cut : err.before < err.now → TookStrictPrefix err.old err.new message
  pub either : ((err.now ≡ err.before) × (err.new ≡ taken_then err.old message)) ⊎ (Rose err.before err.now × TookStrictPrefix err.old err.new message)

abbrev pub SaysIfAny : Option (List ℕ) → Change → Type 0
SaysIfAny None err = IsUntouched err
SaysIfAny (Some message) err = Says message err

pub record Decided (s : Status) (P : Decision → Type 0) (shelf_before shelf_now : ℕ) (out err : Change) : Type 0 where
  pub r : Decision
  pub outcome : P r
  pub status_is : s ≡ status_of r
  pub shelf : shelf_now ≡ shelf_before
  pub count : out.now ≡ out.before
  pub took : out.new ≡ taken_then out.old (text_of r)
  pub says : SaysIfAny (message_of r) err

pub record CutShort (P : Decision → Type 0) (shelf_before shelf_now : ℕ) (out err : Change) : Type 0 where
  pub r : Decision
  pub outcome : P r
  pub text : has_text r
  pub shelf : shelf_now ≡ shelf_before
  pub count : Rose out.before out.now
  pub took : TookStrictPrefix out.old out.new (text_of r)
  pub says : Says cannot_write err

pub record ReadFailed (reads : List ℕ → Type 0) (shelf_before shelf_now : ℕ) (out err : Change) : Type 0 where
  pub count : Rose shelf_before shelf_now
  pub untouched : IsUntouched out
  pub file : List ℕ
  pub named : reads file
  pub says : Says (cannot_read file) err

-- Exactly one case holds, since the status picks it.
abbrev pub Ends : Status → (Decision → Type 0) → (List ℕ → Type 0) → ℕ → ℕ → Change → Change → Type 0
Ends status.ReadFault P reads shelf_before shelf_now out err = ReadFailed reads shelf_before shelf_now out err
Ends status.WriteFault P reads shelf_before shelf_now out err = CutShort P shelf_before shelf_now out err
Ends status.Memory P reads shelf_before shelf_now out err = IsUntouched out × Says no_memory err
Ends s P reads shelf_before shelf_now out err = Decided s P shelf_before shelf_now out err
