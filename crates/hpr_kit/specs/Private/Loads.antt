-- What reading files with where their parts stand comes to.
--
-- IsLoaded files file p s       == the file spells the program p, whose parts stand so in it
-- AreLoaded files names ps ss   == the same of several files; there are as many programs and sources
-- ReadsSource file bytes result == the program that the bytes of a file spell, and where its parts stand; or
--                                  why they are refused; or want of memory
-- Locates bytes result          == where the parts stand of the program that the bytes spell; or the same
-- Judges file bytes result      == the same as ReadsSource, where a refusal is a reply
-- HaltIs P reads told before now halt == a reply of P, where the files are told, and not on the words; or a
--                                  read failed; or memory ran out
-- Loads told file before now result == the same of a file that is read
-- LoadsAll told names before now result == the same of several files
use Rattle.std.specs.Prelude.{◌≡◌, ◌≢◌, ℕ, List, [], ◌∷◌, map, Option, Result, Ok, Err, IfSome, Vec}
use Rattle.std.specs.Global.{Global}
use Rattle.hpr_io.specs.Files.{Files}
use Rattle.hpr_syntax.specs.Grammar.{tagged}
use Rattle.hpr_syntax.specs.Tree.{Tree}
use Rattle.hpr_refusals.specs.Refusals.{IsCauseIn, IsFileOf}
use Rattle.hpr_words.specs.Request.{Text}
use Rattle.hpr_inputs.specs.Reads.{IsReached}
use Rattle.hpr_located.specs.Located.{AreLocated}
use Rattle.hpr_located.specs.Sources.{Standing, standing_of}
use Rattle.hpr_located.specs.declared.located.Located.{Located}
use Rattle.hpr_located.specs.declared.source.Source.{Source}
use Rattle.hpr_kit.specs.Answer.{Answer}
use Rattle.hpr_kit.specs.Reading.{OnProgram, read}
use Rattle.hpr_kit.specs.Private.Replies.{StopIs, seen}
use Rattle.hpr_kit.specs.Sources.{IsSource, OnSources}
use Rattle.hpr_kit.specs.declared.load.Halt.{Halt}
use Rattle.hpr_kit.specs.declared.load.Halt.TheVariants as halt
use Rattle.hpr_kit.specs.declared.load.Loaded.{Loaded}
use Rattle.hpr_kit.specs.declared.program.Unread.{Unread}
use Rattle.hpr_kit.specs.declared.program.Unread.TheVariants as unread
use Rattle.hpr_kit.specs.declared.reply.Stop.TheVariants as stop
use Rattle.hpr_kit.specs.declared.status.Status.TheVariants.{Words}

abbrev pub IsLoaded : Files → Text → Tree → Standing → Type 0
IsLoaded files file p s = IsFileOf (read files file) p × IsSource file (read files file) p s

abbrev pub AreLoaded : Files → List Text → List Tree → List Standing → Type 0
AreLoaded files [] [] [] = Unit {0}
AreLoaded files (file ∷ names) (p ∷ ps) (s ∷ ss) = IsLoaded files file p s × AreLoaded files names ps ss
AreLoaded files _ _ _ = ⊥

abbrev pub ReadsSource : Text → List ℕ → Result (Tree × Source) Unread → Type 0
ReadsSource file bytes (Ok (p, s)) = IsFileOf bytes p × IsSource file bytes p (standing_of s)
ReadsSource file bytes (Err (unread.Refused why)) = IsCauseIn tagged bytes why
ReadsSource file bytes (Err unread.Memory) = Unit {0}

abbrev pub Locates : List ℕ → Result (Vec Located Global) Unread → Type 0
Locates bytes (Ok ls) = AreLocated bytes ls.items
Locates bytes (Err (unread.Refused why)) = IsCauseIn tagged bytes why
Locates bytes (Err unread.Memory) = Unit {0}

abbrev pub Judges : Text → List ℕ → Result (Vec ℕ Global × Tree × Source) Halt → Type 0
Judges file bytes (Ok (kept, p, s)) =
    (kept.items ≡ bytes) × IsFileOf bytes p × IsSource file bytes p (standing_of s)
Judges file bytes (Err (halt.Refused reply)) = OnProgram file bytes (λ p. ⊥) (seen reply)
Judges file bytes (Err (halt.Stop s)) = s ≡ stop.Memory

abbrev pub HaltIs : (Files → Answer → Type 0) → (Text → Type 0) → Option Files → ℕ → ℕ → Halt → Type 0
HaltIs P reads told before now (halt.Refused reply) =
    IfSome told (λ files. P files (seen reply)) × (now ≡ before) × ((seen reply).status ≢ Words)
HaltIs P reads told before now (halt.Stop s) = StopIs reads before now s

abbrev pub Loads : Option Files → Text → ℕ → ℕ → Result (Vec ℕ Global × Tree × Source) Halt → Type 0
Loads told file before now (Ok (bytes, p, s)) =
    IfSome told (λ files. (bytes.items ≡ read files file) × IsLoaded files file p (standing_of s))
    × (now ≡ before)
Loads told file before now (Err h) =
    HaltIs (λ files a. OnProgram file (read files file) (λ p. ⊥) a) (λ named. named ≡ file) told before now h

abbrev pub LoadsAll : Option Files → List Text → ℕ → ℕ → Result Loaded Halt → Type 0
LoadsAll told names before now (Ok l) =
    IfSome told (λ files. AreLoaded files names l.programs.items (map standing_of l.sources.items))
    × (now ≡ before)
LoadsAll told names before now (Err h) =
    HaltIs (λ files a. OnSources files names (λ ps ss. ⊥) a) (IsReached told names) told before now h
