-- What reading a file comes to.
--
-- FailsBy refused files file before now stop  == the file is refused so; or the read failed, and the message
--                                                names the file; or memory ran out
-- ReadsBy refused is files file before now result == what is so of the file's bytes; or as above
-- IsTooLong file bytes message                == a file with this name and these bytes is refused with this
--                                                message, for its length
-- Fetches files file before now result        == the whole file, of an accepted length; or as above, for its
--                                                length
-- ReadsIn form files file before now result   == the program that the file spells in this form; or as above
-- Fails files file before now stop            == the file spells no program, and is refused so; or as above
-- ReadsProgram files file before now result   == the program that it spells, with the tag of each part; or as
--                                                above
-- ReadsScript files file before now result    == the commands of the script that it spells; or as above
-- Refuses file why stop                       == the file is refused with the message for this reason; or
--                                                memory ran out
-- StopsBy refused bytes stop                  == a file with these bytes is refused so; or memory ran out
-- Judges refused is bytes result              == what is so of these bytes; or as above
use Rattle.std.specs.Prelude.{◌≡◌, ℕ, ◌≤◌, ◌<◌, List, length, Option, Result, Ok, Err, Vec, string_bytes}
use Rattle.std.specs.Global.{Global}
use Rattle.hpr_terms.specs.declared.limits.TheConstants.{MAX_FILE}
use Rattle.hpr_io.specs.Counts.{Rose}
use Rattle.hpr_io.specs.Files as io
use Rattle.hpr_syntax.specs.Grammar.{Form, tagged}
use Rattle.hpr_syntax.specs.Tree.{Tree}
use Rattle.hpr_edit.specs.declared.command.Command.{Command}
use Rattle.hpr_refusals.specs.Reasons.{refusal_text}
use Rattle.hpr_refusals.specs.Refusals.{IsFileIn, IsRefusedIn, IsRefusedScript, IsScriptOf}
use Rattle.hpr_refusals.specs.declared.files.Refusal.{Refusal}
use Rattle.hpr_refusals.specs.declared.files.Refusal.TheVariants.{Longer}
use Rattle.hpr_inputs.specs.Files.{cannot_read}
use Rattle.hpr_inputs.specs.Reads.{IfTold}
use Rattle.hpr_inputs.specs.declared.answer.Stop.{Stop}
use Rattle.hpr_inputs.specs.declared.answer.Stop.TheVariants as stop

abbrev pub FailsBy : (List ℕ → List ℕ → Type 0) → Option io.Files → List ℕ → ℕ → ℕ → Stop → Type 0
FailsBy refused files file before now (stop.Refused message) = IfTold files (λ fs. refused (io.bytes_of fs file) (string_bytes message)) × (now ≡ before)
FailsBy refused files file before now (stop.ReadFault message) = Rose before now × (string_bytes message ≡ cannot_read file)
FailsBy refused files file before now stop.Memory = before ≤ now

abbrev pub ReadsBy : {A : Type 0} → (List ℕ → List ℕ → Type 0) → (List ℕ → A → Type 0) → Option io.Files → List ℕ → ℕ → ℕ → Result A Stop → Type 0
ReadsBy refused is files file before now (Ok a) = IfTold files (λ fs. is (io.bytes_of fs file) a) × (now ≡ before)
ReadsBy refused is files file before now (Err s) = FailsBy refused files file before now s

abbrev pub IsTooLong : List ℕ → List ℕ → List ℕ → Type 0
IsTooLong file bytes message = (MAX_FILE < length bytes) × (message ≡ refusal_text file Longer)

abbrev pub Fetches : Option io.Files → List ℕ → ℕ → ℕ → Result (Vec ℕ Global) Stop → Type 0
Fetches files file = ReadsBy (IsTooLong file) (λ bytes v. (v.items ≡ bytes) × (length v.items ≤ MAX_FILE)) files file

abbrev pub ReadsIn : Form → Option io.Files → List ℕ → ℕ → ℕ → Result Tree Stop → Type 0
ReadsIn form files file = ReadsBy (IsRefusedIn form file) (IsFileIn form) files file

abbrev pub Fails : Option io.Files → List ℕ → ℕ → ℕ → Stop → Type 0
Fails files file = FailsBy (IsRefusedIn tagged file) files file

abbrev pub ReadsProgram : Option io.Files → List ℕ → ℕ → ℕ → Result Tree Stop → Type 0
ReadsProgram = ReadsIn tagged

abbrev pub ReadsScript : Option io.Files → List ℕ → ℕ → ℕ → Result (Vec Command Global) Stop → Type 0
ReadsScript files file = ReadsBy (IsRefusedScript file) (λ bytes v. IsScriptOf bytes v.items) files file

abbrev pub Refuses : List ℕ → Refusal → Stop → Type 0
Refuses file why (stop.Refused message) = string_bytes message ≡ refusal_text file why
Refuses file why (stop.ReadFault message) = ⊥
Refuses file why stop.Memory = Unit {0}

abbrev pub StopsBy : (List ℕ → List ℕ → Type 0) → List ℕ → Stop → Type 0
StopsBy refused bytes (stop.Refused message) = refused bytes (string_bytes message)
StopsBy refused bytes (stop.ReadFault message) = ⊥
StopsBy refused bytes stop.Memory = Unit {0}

abbrev pub Judges : {A : Type 0} → (List ℕ → List ℕ → Type 0) → (List ℕ → A → Type 0) → List ℕ → Result A Stop → Type 0
Judges refused is bytes (Ok a) = is bytes a
Judges refused is bytes (Err s) = StopsBy refused bytes s
