-- What is read is one thing, or refused with one message.
use Rattle.std.proofs.Common.{◌≡◌, ℕ, ◌≤◌, arith, List, length, refl, sym, ap, ◌∙◌, Some, None}
use Rattle.hpr_terms.specs.declared.limits.TheConstants.{MAX_FILE}
use Rattle.hpr_scan.specs.Place.{IsPlace}
use Rattle.hpr_syntax.specs.declared.shape.ShapeError.{ShapeError}
use Rattle.hpr_syntax.specs.Grammar.{Form}
use Rattle.hpr_syntax.specs.Shape.{shape}
use Rattle.hpr_syntax.specs.Tree.{Tree}
use Rattle.hpr_text.specs.Answers.{IsText, IsMisshapen}
use Rattle.hpr_text.proofs.Texts.{one_tree}
use Rattle.hpr_script.specs.ScriptGrammar.{HasScript}
use Rattle.hpr_script.proofs.Scripts.{one_script}
use Rattle.hpr_refusals.specs.Reasons.{refusal_text}
use Rattle.hpr_refusals.specs.Refusals.{IsCauseFor, IsFileIn, IsOne, IsRefusedFor, IsRefusedIn, IsRefusedScript, IsScriptOf, OneReading}
use Rattle.hpr_refusals.specs.declared.files.Refusal.{Refusal}
use Rattle.hpr_refusals.specs.declared.files.Refusal.TheVariants as refusal

one_place : (L : List ℕ → Type 0) (bytes : List ℕ) (m n : ℕ) → IsPlace L bytes m → IsPlace L bytes n → m ≡ n
one_place L bytes m n h k = omega (arith, h.longest n k.within k.viable, k.longest m h.within h.viable)

-- a text of L that is misshapen is so in one way
module _ (L : List ℕ → Type 0) (misshapen : List ℕ → ShapeError → Type 0) (bytes : List ℕ)
    (is_text : (e : ShapeError) → misshapen bytes e → L bytes) (one_shape : (d e : ShapeError) → misshapen bytes d → misshapen bytes e → d ≡ e) where
  one_cause : (r s : Refusal) → IsCauseFor L misshapen bytes r → IsCauseFor L misshapen bytes s → r ≡ s
  one_cause refusal.Longer refusal.Longer h k = refl
  one_cause refusal.Longer (refusal.Syntax n) h k = absurd (omega (arith, h, k.0))
  one_cause refusal.Longer (refusal.Shape e) h k = absurd (omega (arith, h, k.0))
  one_cause (refusal.Syntax m) refusal.Longer h k = absurd (omega (arith, h.0, k))
  one_cause (refusal.Syntax m) (refusal.Syntax n) h k = ap refusal.Syntax (one_place L bytes m n h.1 k.1)
  one_cause (refusal.Syntax m) (refusal.Shape e) h k = absurd (h.1.unspelled (is_text e k.1))
  one_cause (refusal.Shape d) refusal.Longer h k = absurd (omega (arith, h.0, k))
  one_cause (refusal.Shape d) (refusal.Syntax n) h k = absurd (k.1.unspelled (is_text d h.1))
  one_cause (refusal.Shape d) (refusal.Shape e) h k = ap refusal.Shape (one_shape d e h.1 k.1)

  one_message : (file m n : List ℕ) → IsRefusedFor (IsCauseFor L misshapen bytes) file m → IsRefusedFor (IsCauseFor L misshapen bytes) file n → m ≡ n
  one_message file m n (r, h, is) (s, k, so) = is ∙ ap (refusal_text file) (one_cause r s h k) ∙ sym so

  not_refused : length bytes ≤ MAX_FILE → L bytes → ((e : ShapeError) → misshapen bytes e → ⊥) → (why : Refusal) → IsCauseFor L misshapen bytes why → ⊥
  not_refused short text well refusal.Longer h = omega (arith, h, short)
  not_refused short text well (refusal.Syntax place) h = h.1.unspelled text
  not_refused short text well (refusal.Shape error) h = well error h.1

module _ (form : Form) (bytes : List ℕ) where
  one_shape : (d e : ShapeError) → IsMisshapen form bytes d → IsMisshapen form bytes e → d ≡ e
  one_shape d e (t, spelled, is) (u, also, so) =
      let same : Some d ≡ Some e = sym is ∙ ap shape (one_tree form bytes t u spelled also) ∙ so in
      cc

  well_shaped : (p : Tree) → IsFileIn form bytes p → (e : ShapeError) → IsMisshapen form bytes e → ⊥
  well_shaped p is e (t, spelled, fails) =
      let same : shape p ≡ shape t = ap shape (one_tree form bytes p t is.spelled spelled) in
      let none : None ≡ Some e = sym is.program.shape ∙ same ∙ fails in
      absurd cc

  file_text : (e : ShapeError) → IsMisshapen form bytes e → IsText form bytes
  file_text e (t, spelled, fails) = (t, spelled)

  pub one_file : (file : List ℕ) → IsOne (IsRefusedIn form file bytes) (IsFileIn form bytes)
  one_file file = record {
    value = λ p q h k. one_tree form bytes p q h.spelled k.spelled;
    message = one_message (IsText form) (IsMisshapen form) bytes file_text one_shape file;
    apart = λ m p (why, cause, is) h.
        not_refused (IsText form) (IsMisshapen form) bytes file_text one_shape h.short (p, h.spelled) (well_shaped p h) why cause;
  }

pub one_script_file : (file bytes : List ℕ) → IsOne (IsRefusedScript file bytes) (IsScriptOf bytes)
one_script_file file bytes = record {
  value = λ cs ds h k. one_script bytes cs ds h.spelled k.spelled;
  message = one_message HasScript (λ bytes error. ⊥) bytes (λ e h. absurd h) (λ d e h k. absurd h) file;
  apart = λ m cs (why, cause, is) h.
      not_refused HasScript (λ bytes error. ⊥) bytes (λ e h. absurd h) (λ d e h k. absurd h) h.short (cs, h.spelled) (λ e h. h) why cause;
}

pub one_reading : OneReading
one_reading = record { program = λ form file bytes. one_file form bytes file; script = one_script_file }
