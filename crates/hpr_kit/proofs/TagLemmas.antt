-- Texts in which some parts have no tag.
use Rattle.std.proofs.Common.{◌≡◌, ◌∙◌, ℕ, ◌≤◌, Bool, true, false, cond, List, length, refl, sym, ap, subst, inl, inr, nat_lt}
use Rattle.std.proofs.lemmas.Bool.{ltb-false}
use Rattle.hpr_terms.specs.declared.limits.TheConstants.{MAX_FILE}
use Rattle.hpr_syntax.specs.Grammar.{tagged}
use Rattle.hpr_syntax.specs.Print.{text}
use Rattle.hpr_syntax.specs.Spelling.{Spells}
use Rattle.hpr_syntax.specs.Tree.{Tree}
use Rattle.hpr_syntax.proofs.TextSpells.{text_spells}
use Rattle.hpr_tagging.specs.Tagging.{kept}
use Rattle.hpr_refusals.specs.Refusals.{IsFileOf}
use Rattle.hpr_refusals.specs.declared.files.Refusal.TheVariants as refusal
use Rattle.hpr_kit.specs.Answer.{Answer, prints, refused_text, refuses, spent_text}
use Rattle.hpr_kit.specs.Comes.{OnTagged, kept_answer, retold}
use Rattle.hpr_kit.specs.Tags.{IsTagged, IsTagging}
use Rattle.hpr_kit.specs.declared.status.Status.TheVariants as status

module _ (file bytes : List ℕ) (a : Answer) where
  not_done : (message : List ℕ) → a ≡ refuses message → a.status ≡ status.Done → ⊥
  not_done message is done = let e : status.Refused ≡ status.Done = sym (ap (λ (x : Answer). x.status) is) ∙ done in cc

  by_length : (t : List ℕ) (b : Bool) → nat_lt MAX_FILE (length t) ≡ b → a ≡ cond b (refuses (refused_text file bytes refusal.Longer)) (prints t)
      → a.status ≡ status.Done → (length t ≤ MAX_FILE) × (a.out ≡ t)
  by_length t true e is done = absurd (not_done (refused_text file bytes refusal.Longer) is done)
  by_length t false e is done = (ltb-false MAX_FILE (length t) e, ap (λ (x : Answer). x.out) is)

  kept_done : (t : List ℕ) → a ≡ kept_answer file bytes t → a.status ≡ status.Done → (length t ≤ MAX_FILE) × (a.out ≡ t)
  kept_done t is done = by_length t (nat_lt MAX_FILE (length t)) refl is done

  program_done : (author : ℕ) (keep : Bool) (p : Tree) → IsTagged author bytes p → a ≡ retold keep file bytes (kept author bytes) p → a.status ≡ status.Done
      → IsTagging author keep bytes a.out
  program_done author false p is so done =
      let out : a.out ≡ text p = ap (λ (x : Answer). x.out) so in
      (p, is, out, subst (λ t. Spells tagged t p) (sym out) (text_spells p is.program))
  program_done author true p is so done =
      let (short, out) = kept_done (kept author bytes) so done in
      (p, is, out, subst (λ t. IsFileOf t p) (sym out) (record { short = short; spelled = is.spelled; program = is.program }))

  pub tagged_done : (author : ℕ) (keep : Bool) → OnTagged author file bytes (λ p. a ≡ retold keep file bytes (kept author bytes) p) a → a.status ≡ status.Done
      → (length bytes ≤ MAX_FILE) × IsTagging author keep bytes a.out
  tagged_done author keep (inl (why, cause, is)) done = absurd (not_done (refused_text file bytes why) is done)
  tagged_done author keep (inr (inl (spent, is))) done = absurd (not_done (spent_text file) is done)
  tagged_done author keep (inr (inr (p, is, so))) done = (is.suffices.short, program_done author keep p is so done)
