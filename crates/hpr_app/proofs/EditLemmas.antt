-- The order of causes where a program and then a script are read.
use Rattle.std.proofs.Common.{◌≡◌, ℕ, List, [], ◌∷◌, refl, sym, ap, inl, inr, subst, ◌∙◌, Option, Err, Result}
use Rattle.hpr_io.specs.Files.{Files, bytes_of}
use Rattle.hpr_syntax.specs.Print.{text}
use Rattle.hpr_syntax.specs.Tree.{Tree}
use Rattle.hpr_edit.specs.declared.command.Command.{Command}
use Rattle.hpr_edit.specs.declared.command.EditError.{EditError}
use Rattle.hpr_edit.specs.Applied.{Applied, applied, becomes, refused}
use Rattle.hpr_refusals.specs.Reasons.{command_text}
use Rattle.hpr_refusals.specs.Refusals.{IsRefusedScript, IsScriptOf}
use Rattle.hpr_inputs.specs.Answer.{StopIs, Decides, Merges}
use Rattle.hpr_inputs.specs.Decision.{Decision, prints, refuses}
use Rattle.hpr_decisions.specs.EditFiles.{EditOutcome, OnScript, edit_decision}
use Rattle.hpr_inputs.specs.ReadsFile.{Fails, FailsBy}
use Rattle.hpr_inputs.specs.Reads.{IfTold, IsReached}
use Rattle.hpr_inputs.specs.declared.answer.Kind.TheVariants.{Done}
use Rattle.hpr_inputs.specs.declared.answer.Report.{Report}
use Rattle.hpr_inputs.specs.declared.answer.Stop.{Stop}
use Rattle.hpr_inputs.proofs.ReadLemmas.{FileOf, file_fails, past_file, past_last_read, read_fails, spelled}

module _ (files : Option Files) (file script : List ℕ) (author : ℕ) where
  abbrev pub Reaches : Decision → Type 0
  Reaches r = IfTold files (λ fs. EditOutcome fs file script author r)

  abbrev pub Reads : List ℕ → Type 0
  Reads name = IsReached files (file ∷ script ∷ []) name

  abbrev Edits : Tree → List Command → Decision → Type 0
  Edits p cs r = r ≡ edit_decision script (applied p cs author)

  -- what the outcome is behind the program
  abbrev AfterFile : Files → Tree → Decision → Type 0
  AfterFile fs p r = OnScript fs script (λ cs. Edits p cs r) r

  module _ (before now : ℕ) where
    pub program_fails : (s : Stop) → Fails files file before now s → StopIs Reaches Reads before now s
    program_fails s h = file_fails files Reads before now file AfterFile s (inl refl) h

    pub script_fails : (p : Tree) (s : Stop) → FileOf files file p → FailsBy (IsRefusedScript script) files script before now s → StopIs Reaches Reads before now s
    script_fails p s hp h =
        past_file files Reads before now file AfterFile p (Err s) hp
        (read_fails files Reads before now (IsRefusedScript script) IsScriptOf script (λ fs cs r. Edits p cs r) s (inr (spelled files file p hp, inl refl)) h)

    pub decided : (p : Tree) (cs : List Command) (result : Result Report Stop) → FileOf files file p → IfTold files (λ fs. IsScriptOf (bytes_of fs script) cs)
        → now ≡ before → Merges (Edits p cs) result → Decides Reaches Reads before now result
    decided p cs result hp hs same h =
        past_file files Reads before now file AfterFile p result hp
        (past_last_read files Reads before now (IsRefusedScript script) IsScriptOf script (Edits p) cs result hs same h)

-- what a script comes to is the decision
module _ (script : List ℕ) (x : Applied) where
  pub edited_decides : (q : Tree) (result : Result Report Stop) → x ≡ becomes q → Merges (λ r. r ≡ prints Done (text q)) result
      → Merges (λ r. r ≡ edit_decision script x) result
  edited_decides q result e h = subst (λ y. Merges (λ r. r ≡ edit_decision script y) result) (sym e) h

  pub refused_decides : (k : ℕ) (why : EditError) (message : List ℕ) → x ≡ refused k why → message ≡ command_text script k why
      → refuses message ≡ edit_decision script x
  refused_decides k why message e h = ap refuses h ∙ ap (edit_decision script) (sym e)
