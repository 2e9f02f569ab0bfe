-- Each file is refused, or spells a program or a script.
--
-- IsRead refused is == what is read is refused with some message, or is something
use Rattle.std.proofs.Common.{◌≡◌, ◌⊎◌, ℕ, ◌≤◌, None, List, [], length, inl, inr, refl}
use Rattle.std.proofs.lemmas.Bool.{cases_lt}
use Rattle.hpr_terms.specs.declared.limits.TheConstants.{MAX_FILE}
use Rattle.hpr_terms.specs.Tokens.{nothing, blanks, ending}
use Rattle.hpr_terms.proofs.Facts.{by_both}
use Rattle.hpr_scan.specs.Place.{IsViable}
use Rattle.hpr_scan.proofs.SomePlace.{some_place}
use Rattle.hpr_syntax.specs.Grammar.{Form}
use Rattle.hpr_syntax.specs.Proper.{IsProper}
use Rattle.hpr_syntax.specs.Shape.{shape}
use Rattle.hpr_syntax.specs.Spelling.{Spells}
use Rattle.hpr_syntax.specs.Tree.{Tree}
use Rattle.hpr_text.proofs.SomeReading.{some_reading}
use Rattle.hpr_script.specs.ScriptGrammar as script
use Rattle.hpr_script.specs.ScriptGrammar.{HasScript}
use Rattle.hpr_refusals.specs.Reasons.{refusal_text}
use Rattle.hpr_refusals.specs.Refusals.{IsCauseIn, IsFileIn, IsRefusedIn, IsRefusedScript, IsScriptCause, IsScriptOf}
use Rattle.hpr_refusals.specs.declared.files.Refusal.{Refusal}
use Rattle.hpr_refusals.specs.declared.files.Refusal.TheVariants as refusal

abbrev pub IsRead : {A : Type 0} → (List ℕ → Type 0) → (A → Type 0) → Type 0
IsRead {A = A} refused is = ((message : List ℕ) × refused message) ⊎ ((a : A) × is a)

-- a file that is to spell a program
module _ (form : Form) (file bytes : List ℕ) (proper : (t : Tree) → Spells form bytes t → shape t ≡ None → IsProper t) where
  abbrev ReadsFile : Type 0
  ReadsFile = IsRead (IsRefusedIn form file bytes) (IsFileIn form bytes)

  by_cause : (why : Refusal) → IsCauseIn form bytes why → ReadsFile
  by_cause why cause = inl (refusal_text file why, (why, cause, refl))

  short_file : length bytes ≤ MAX_FILE → ¬ (¬ ReadsFile)
  short_file short n =
      some_reading form bytes proper (λ reading. elim reading [
        | inl place ↦ n (by_cause (refusal.Syntax place.0) (short, place.1))
        | inr tree ↦ elim tree [
          | inl misshapen ↦ n (by_cause (refusal.Shape misshapen.0) (short, misshapen.1))
          | inr program ↦ n (inr (program.0, record { short = short; spelled = program.1; program = program.2 }))
        ]
      ])

  pub reads_file : ¬ (¬ ReadsFile)
  reads_file n = elim (cases_lt MAX_FILE (length bytes)) [ inl longer ↦ n (by_cause refusal.Longer longer) | inr short ↦ short_file short n ]

-- one that is to spell a script
some_script : IsViable HasScript []
some_script = ([], ([], record { tokens = []; text = ending (blanks nothing); spelled = script.SpellsScript.nothing }))

module _ (file bytes : List ℕ) where
  abbrev ReadsScript : Type 0
  ReadsScript = IsRead (IsRefusedScript file bytes) (IsScriptOf bytes)

  by_script_cause : (why : Refusal) → IsScriptCause bytes why → ReadsScript
  by_script_cause why cause = inl (refusal_text file why, (why, cause, refl))

  short_script : length bytes ≤ MAX_FILE → ¬ (¬ ReadsScript)
  short_script short =
      by_both (HasScript bytes) ReadsScript
      (λ found n. n (inr (found.0, record { short = short; spelled = found.1 })))
      (λ none n. some_place HasScript bytes none some_script (λ place. n (by_script_cause (refusal.Syntax place.0) (short, place.1))))

  pub reads_script : ¬ (¬ ReadsScript)
  reads_script n = elim (cases_lt MAX_FILE (length bytes)) [ inl longer ↦ n (by_script_cause refusal.Longer longer) | inr short ↦ short_script short n ]
