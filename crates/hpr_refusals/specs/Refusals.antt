-- Which files are refused.
--
-- IsFileIn form bytes p               == the bytes are of an accepted length and spell the program p in this
--                                        form
-- IsFileOf bytes p                    == the same, with the tag of each part
-- IsScriptOf bytes cs                 == the bytes are of an accepted length and spell the script of these
--                                        commands
-- IsCauseFor L misshapen bytes why    == the bytes are too many; or they are not, and are no text of L, with
--                                        this place; or they are misshapen, and so
-- IsCauseIn form bytes why            == the same of programs in this form: the bytes spell no tree; or a
--                                        tree that is no program, and this is the first test that it fails
-- IsScriptCause bytes why             == the same of scripts: the bytes spell none
-- IsRefusedFor cause file message     == a file with this name is refused with this message, for such a cause
-- IsRefusedIn form file bytes message == a file with this name and these bytes is refused so, where it is to
--                                        spell a program in this form
-- IsRefused file bytes message        == the same, with the tag of each part
-- IsRefusedScript file bytes message  == the same, where it is to spell a script
-- IsOne refused is                    == what is read is one thing or refused with one message, and not both
-- OneReading                          == that is so of each file that is to spell a program or a script
use Rattle.std.specs.Prelude.{◌≡◌, ℕ, ◌≤◌, ◌<◌, List, length}
use Rattle.hpr_terms.specs.declared.limits.TheConstants.{MAX_FILE}
use Rattle.hpr_scan.specs.Place.{IsPlace}
use Rattle.hpr_syntax.specs.declared.shape.ShapeError.{ShapeError}
use Rattle.hpr_syntax.specs.Grammar.{Form, tagged}
use Rattle.hpr_syntax.specs.Shape.{IsProgram}
use Rattle.hpr_syntax.specs.Spelling.{Spells}
use Rattle.hpr_syntax.specs.Tree.{Tree}
use Rattle.hpr_text.specs.Answers.{IsText, IsMisshapen}
use Rattle.hpr_edit.specs.declared.command.Command.{Command}
use Rattle.hpr_script.specs.ScriptGrammar.{IsScript, HasScript}
use Rattle.hpr_refusals.specs.Reasons.{refusal_text}
use Rattle.hpr_refusals.specs.declared.files.Refusal.{Refusal}
use Rattle.hpr_refusals.specs.declared.files.Refusal.TheVariants as refusal

pub record IsFileIn (form : Form) (bytes : List ℕ) (p : Tree) : Type 0 where
  pub short : length bytes ≤ MAX_FILE
  pub spelled : Spells form bytes p
  pub program : IsProgram p

abbrev pub IsFileOf : List ℕ → Tree → Type 0
IsFileOf bytes p = IsFileIn tagged bytes p

pub record IsScriptOf (bytes : List ℕ) (cs : List Command) : Type 0 where
  pub short : length bytes ≤ MAX_FILE
  pub spelled : IsScript bytes cs

abbrev pub IsCauseFor : (List ℕ → Type 0) → (List ℕ → ShapeError → Type 0) → List ℕ → Refusal → Type 0
IsCauseFor L misshapen bytes refusal.Longer = MAX_FILE < length bytes
IsCauseFor L misshapen bytes (refusal.Syntax place) = (length bytes ≤ MAX_FILE) × IsPlace L bytes place
IsCauseFor L misshapen bytes (refusal.Shape error) = (length bytes ≤ MAX_FILE) × misshapen bytes error

abbrev pub IsCauseIn : Form → List ℕ → Refusal → Type 0
IsCauseIn form = IsCauseFor (IsText form) (IsMisshapen form)

abbrev pub IsScriptCause : List ℕ → Refusal → Type 0
IsScriptCause = IsCauseFor HasScript (λ bytes error. ⊥)

abbrev pub IsRefusedFor : (Refusal → Type 0) → List ℕ → List ℕ → Type 0
IsRefusedFor cause file message = (why : Refusal) × cause why × (message ≡ refusal_text file why)

abbrev pub IsRefusedIn : Form → List ℕ → List ℕ → List ℕ → Type 0
IsRefusedIn form file bytes message = IsRefusedFor (IsCauseIn form bytes) file message

abbrev pub IsRefused : List ℕ → List ℕ → List ℕ → Type 0
IsRefused file bytes message = IsRefusedIn tagged file bytes message

abbrev pub IsRefusedScript : List ℕ → List ℕ → List ℕ → Type 0
IsRefusedScript file bytes message = IsRefusedFor (IsScriptCause bytes) file message

pub record IsOne {A : Type 0} (refused : List ℕ → Type 0) (is : A → Type 0) : Type 0 where
  pub value : (a b : A) → is a → is b → a ≡ b
  pub message : (m n : List ℕ) → refused m → refused n → m ≡ n
  pub apart : (m : List ℕ) (a : A) → refused m → is a → ⊥

pub record OneReading : Type 0 where
  pub program : (form : Form) (file bytes : List ℕ) → IsOne (IsRefusedIn form file bytes) (IsFileIn form bytes)
  pub script : (file bytes : List ℕ) → IsOne (IsRefusedScript file bytes) (IsScriptOf bytes)
