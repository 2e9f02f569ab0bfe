-- What the parts of a call come to.
--
-- seen reply                         == the answer that a reply is
-- stop_status, stop_message          == the status of a stop, and its message for `err`
-- IsWithin bytes why                 == the place of what is refused stands in the bytes, or behind them
-- Reads bytes result                 == the program that the bytes spell, or why they are refused, or want of
--                                       memory
-- StopIs reads before now stop       == a failed read, counted by the shelf, of a file that is read; or
--                                       memory ran out
-- Fetches told file before now result == what is read of the file; or a read failed; or memory ran out
-- Decides ask told before now result == the reply to what is asked; or a read failed, of a file that is
--                                       named; or memory ran out
-- WritesTexts status text message s out err == the texts are written with this status, or a write failed
-- IsUnwritten file stop              == this file can't be written; or memory ran out
-- RewritesFile r s w err             == a file got its bytes, or it can't be written, or memory ran out
-- Writes a s w out err               == the answer a is written, which may be that a file gets its bytes; or
--                                       a write failed; or memory ran out; the status is s
use Rattle.std.specs.Prelude.{◌≡◌, ◌⊎◌, ℕ, ◌≤◌, List, length, [], None, Option, Some, Result, Ok, Err, IfSome, Vec, string_bytes}
use Rattle.std.specs.Global.{Global}
use Rattle.hpr_io.specs.Counts.{Rose}
use Rattle.hpr_io.specs.Files.{Files}
use Rattle.hpr_syntax.specs.Grammar.{tagged}
use Rattle.hpr_syntax.specs.Tree.{Tree}
use Rattle.hpr_refusals.specs.Refusals.{IsCauseIn, IsFileOf}
use Rattle.hpr_refusals.specs.declared.files.Refusal.{Refusal}
use Rattle.hpr_refusals.specs.declared.files.Refusal.TheVariants as refusal
use Rattle.hpr_words.specs.Request.{Text}
use Rattle.hprkit_words.specs.Ask.{Ask}
use Rattle.hpr_kit.specs.Answer.{Answer, Rewrite, cannot_read, cannot_rewrite, cannot_write, no_memory, rewrites}
use Rattle.hpr_kit.specs.Comes.{Comes, MayRead}
use Rattle.hpr_kit.specs.Reading.{read}
use Rattle.hpr_kit.specs.Ends.{Change, Kept, Rewriting, Rewrote, Says, TookAll, TookPart}
use Rattle.hpr_kit.specs.declared.program.Unread.{Unread}
use Rattle.hpr_kit.specs.declared.program.Unread.TheVariants as unread
use Rattle.hpr_kit.specs.declared.reply.Reply.{Reply}
use Rattle.hpr_kit.specs.declared.reply.Reply.TheVariants as reply
use Rattle.hpr_kit.specs.declared.reply.Stop.{Stop}
use Rattle.hpr_kit.specs.declared.reply.Stop.TheVariants as stop
use Rattle.hpr_kit.specs.declared.status.Status.{Status}
use Rattle.hpr_kit.specs.declared.status.Status.TheVariants.{Done, Memory, ReadFault, WriteFault}

abbrev pub seen : Reply → Answer
seen (reply.Said status out err) =
    record { status = status; out = out.items; err = err.items; rewrite = None }
seen (reply.Rewrites file had bytes) = rewrites (string_bytes file) had.items bytes.items

abbrev pub stop_status : Stop → Status
stop_status (stop.ReadFault message) = ReadFault
stop_status (stop.WriteFault message) = WriteFault
stop_status stop.Memory = Memory

abbrev pub stop_message : Stop → List ℕ
stop_message (stop.ReadFault message) = string_bytes message
stop_message (stop.WriteFault message) = string_bytes message
stop_message stop.Memory = no_memory

abbrev pub IsWithin : List ℕ → Refusal → Type 0
IsWithin bytes (refusal.Syntax n) = n ≤ length bytes
IsWithin bytes refusal.Longer = Unit {0}
IsWithin bytes (refusal.Shape error) = Unit {0}

abbrev pub Reads : List ℕ → Result Tree Unread → Type 0
Reads bytes (Ok p) = IsFileOf bytes p
Reads bytes (Err (unread.Refused why)) = IsCauseIn tagged bytes why
Reads bytes (Err unread.Memory) = Unit {0}

abbrev pub StopIs : (Text → Type 0) → ℕ → ℕ → Stop → Type 0
StopIs reads before now (stop.ReadFault message) =
    Rose before now × ((file : Text) × reads file × (string_bytes message ≡ cannot_read file))
StopIs reads before now (stop.WriteFault message) = ⊥
StopIs reads before now stop.Memory = Unit {0}

abbrev pub Fetches : Option Files → Text → ℕ → ℕ → Result (Vec ℕ Global) Stop → Type 0
Fetches told file before now (Ok bytes) =
    IfSome told (λ files. bytes.items ≡ read files file) × (now ≡ before)
Fetches told file before now (Err s) = StopIs (λ named. named ≡ file) before now s

abbrev pub Decides : Ask → Option Files → ℕ → ℕ → Result Reply Stop → Type 0
Decides ask told before now (Ok reply) =
    IfSome told (λ files. Comes (Some ask) files (seen reply)) × (now ≡ before)
Decides ask told before now (Err s) = StopIs (MayRead (Some ask) told) before now s

abbrev pub WritesTexts : Status → List ℕ → List ℕ → Status → Change → Change → Type 0
WritesTexts status text message s out err =
    ((s ≡ status) × TookAll text out × Says message err)
    ⊎ ((s ≡ WriteFault) × TookPart text out × Says cannot_write err)

abbrev pub IsUnwritten : Text → Stop → Type 0
IsUnwritten file (stop.ReadFault message) = ⊥
IsUnwritten file (stop.WriteFault message) = string_bytes message ≡ cannot_rewrite file
IsUnwritten file stop.Memory = Unit {0}

abbrev pub RewritesFile : Rewrite → Status → Rewriting → Change → Type 0
RewritesFile r s w err =
    ((s ≡ Done) × Rewrote (Some r) w × (w.now ≡ w.before) × Says [] err)
    ⊎ (((s ≡ WriteFault) × Kept w × Rose w.before w.now × Says (cannot_rewrite r.file) err)
    ⊎ ((s ≡ Memory) × Kept w × Says no_memory err))

pub data Writes (a : Answer) (s : Status) (w : Rewriting) (out err : Change) : Type 0 where
  written : s ≡ a.status → Rewrote a.rewrite w → w.now ≡ w.before → TookAll a.out out → Says a.err err
      → Writes a s w out err
  cut : s ≡ WriteFault → Kept w → TookPart a.out out → Says cannot_write err → Writes a s w out err
  lost : (r : Rewrite) → a.rewrite ≡ Some r → s ≡ WriteFault → Kept w → Rose w.before w.now
      → TookAll [] out → Says (cannot_rewrite r.file) err
      → Writes a s w out err
  no_room : s ≡ Memory → Kept w → TookAll [] out → Says no_memory err → Writes a s w out err
