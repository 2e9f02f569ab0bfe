-- What the call that integrates three texts tells, by its number.
use Rattle.std.proofs.Common.{◌≡◌, ◌∙◌, ◌≤◌, ◌⊎◌, ℕ, List, [], Some, Option, ap, arith, inl, inr, refl, subst, sym, codes}
use Rattle.std.specs.Prelude.{IfSome}
use Rattle.hpr_terms.specs.declared.limits.TheConstants.{DEFAULT_TRIES}
use Rattle.hpr_io.specs.Files.{Files}
use Rattle.hpr_io.specs.Taken.{taken_then}
use Rattle.hpr_words.specs.Request.{Request, integrate}
use Rattle.hpr_words.specs.Taken.{taken}
use Rattle.hpr_words.proofs.PlainLemmas.{plain_taken}
use Rattle.hpr_inputs.specs.Decision.{Decision, prints, refuses, usage}
use Rattle.hpr_inputs.specs.declared.answer.Kind.{Kind}
use Rattle.hpr_inputs.specs.declared.answer.Kind.TheVariants as kind
use Rattle.hpr_decisions.specs.Ends.{Decided, SaysIfAny, message_of, status_of, status_of_kind, text_of}
use Rattle.hpr_decisions.specs.MergedText.{PrintsMerged}
use Rattle.hpr_decisions.specs.Number.{number_of}
use Rattle.hpr_decisions.specs.Outcome.{Outcome, OutcomeIfTold, RequestOutcome}
use Rattle.hpr_decisions.specs.Statuses.{IsStatusOf}
use Rattle.hpr_decisions.specs.Theorem.{IsMergedText, KeepsMeaning}
use Rattle.hpr_decisions.specs.declared.status.Status.{Status}
use Rattle.hpr_decisions.specs.declared.status.Status.TheVariants as status
use Rattle.hpr_c.specs.Call.{Tells, kept}
use Rattle.hpr_c.specs.Ends.{EndsAsHpr}
use Rattle.hpr_c.specs.Integrate.{HasTheirGraph, IsInterfering, IsOverBudget, IsRefused, IsWithoutProgram, integrate_words, three}
use Rattle.hpr_c.proofs.TellsLemmas.{all_taken, not_risen, numbered, status_at, took_all}

abbrev pub asked : Request
asked = integrate (codes "base") (codes "a") (codes "b") DEFAULT_TRIES

pub taken_so : taken integrate_words ≡ Some asked
taken_so = plain_taken integrate_words (integrate (codes "base") (codes "a") (codes "b") DEFAULT_TRIES) refl

not_refused : (k : Kind) → status.Refused ≡ status_of_kind k → ⊥
not_refused kind.Done e = absurd cc
not_refused kind.Interference e = absurd cc
not_refused kind.NoProgram e = absurd cc
not_refused kind.Spent e = absurd cc
not_refused kind.NotEnded e = absurd cc
not_refused kind.Rejected e = absurd cc

module _ (base a b : List ℕ) where
  abbrev files : Files
  files = three base a b

  abbrev Told : Status → List ℕ → List ℕ → Type 0
  Told s out err = EndsAsHpr integrate_words (Some files) s 0 0 (kept out) (kept err)

  -- the status, where memory did not run out
  abbrev pub Says : ℕ → List ℕ → List ℕ → Type 0
  Says number out err = Tells integrate_words (Some files) 0 0 number out err

  of_number : (s : Status) (number n : ℕ) (out err : List ℕ) → number ≡ number_of s → number ≡ n → Told s out err → Told (status_at n) out err
  of_number s number n out err is e told =
      subst (λ (t : Status). Told t out err) (sym (numbered s) ∙ ap status_at (sym is ∙ e)) told

  pub keeps : (number : ℕ) (out err : List ℕ) → Says number out err → number ≡ 0 → IsMergedText base a b out
  keeps number out err (inr ran) e = let is = ran.0 in absurd (omega (arith, is, e))
  keeps number out err (inl told) e =
      took_all (KeepsMeaning asked files) out ((of_number told.s number 0 out err told.number_is e told.ends).keeps asked files taken_so refl refl)

  pub merged : (number : ℕ) (out err : List ℕ) → Says number out err → number ≡ 0 → HasTheirGraph base a b out
  merged number out err (inr ran) e = let is = ran.0 in absurd (omega (arith, is, e))
  merged number out err (inl told) e =
      took_all (PrintsMerged asked files) out ((of_number told.s number 0 out err told.number_is e told.ends).merged asked files taken_so refl refl)

  pub interferes : (number : ℕ) (out err : List ℕ) → Says number out err → number ≡ 1 → IsInterfering base a b out
  interferes number out err (inr ran) e = let is = ran.0 in absurd (omega (arith, is, e))
  interferes number out err (inl told) e =
      let h = (of_number told.s number 1 out err told.number_is e told.ends).interference asked files taken_so refl refl in
      (h.0, h.1, all_taken _ out h.2.1)

  pub no_program : (number : ℕ) (out err : List ℕ) → Says number out err → number ≡ 2 → IsWithoutProgram base a b out
  no_program number out err (inr ran) e = let is = ran.0 in absurd (omega (arith, is, e))
  no_program number out err (inl told) e =
      let h = (of_number told.s number 2 out err told.number_is e told.ends).no_program asked files taken_so refl refl in
      (h.0, h.1, all_taken _ out h.2)

  pub spent : (number : ℕ) (out err : List ℕ) → Says number out err → number ≡ 3 → IsOverBudget base a b out
  spent number out err (inr ran) e = let is = ran.0 in absurd (omega (arith, is, e))
  spent number out err (inl told) e =
      let ends = of_number told.s number 3 out err told.number_is e told.ends in
      let h = ends.spent asked files taken_so refl refl in
      (h.0, ends.leaves asked files taken_so refl refl, all_taken _ out h.1)

  -- what a decision that refuses says
  refusing : (r : Decision) (out err : List ℕ) → status.Refused ≡ status_of r → RequestOutcome asked files r → Some out ≡ taken_then (Some []) (text_of r)
      → SaysIfAny (message_of r) (kept err) → IsRefused base a b err × (out ≡ [])
  refusing (prints k text) out err e o took says = absurd (not_refused k e)
  refusing usage out err e o took says = absurd cc
  refusing (refuses message) out err e o took says =
      let all : err ≡ message = all_taken message err (says.whole not_risen) in
      (subst (λ (m : List ℕ). RequestOutcome asked files (refuses m)) (sym all) o, all_taken [] out took)

  refused_so : (out err : List ℕ) → Told status.Refused out err → IsRefused base a b err × (out ≡ [])
  refused_so out err told =
      let d : Decided status.Refused (OutcomeIfTold (taken integrate_words) (Some files)) 0 0 (kept out) (kept err) = told.ends in
      refusing d.r out err d.status_is (subst (λ (o : Option Request). Outcome o files d.r) taken_so (d.outcome files refl)) d.took d.says

  pub refused : (number : ℕ) (out err : List ℕ) → Says number out err → number ≡ 4 → IsRefused base a b err
  refused number out err (inr ran) e = let is = ran.0 in absurd (omega (arith, is, e))
  refused number out err (inl told) e = (refused_so out err (of_number told.s number 4 out err told.number_is e told.ends)).0

  status_so : (s : Status) (out err : List ℕ) → Told s out err → IsStatusOf asked s
  status_so s out err told = subst (λ (o : Option Request). IfSome o (λ request. IsStatusOf request s)) taken_so told.status

  empty_so : (s : Status) (out err : List ℕ) → Told s out err → IsStatusOf asked s → 4 ≤ number_of s → out ≡ []
  empty_so status.Done out err told is low = absurd (omega (arith, low))
  empty_so status.Interference out err told is low = absurd (omega (arith, low))
  empty_so status.NoProgram out err told is low = absurd (omega (arith, low))
  empty_so status.Spent out err told is low = absurd (omega (arith, low))
  empty_so status.Refused out err told is low = (refused_so out err told).1
  empty_so status.ReadFault out err told is low = absurd (not_risen (told.read refl))
  empty_so status.WriteFault out err told is low = absurd (not_risen (told.write refl))
  empty_so status.Words out err told is low = absurd is
  empty_so status.Memory out err told is low = all_taken [] out told.ends.0.1
  empty_so status.NotEnded out err told is low = absurd is
  empty_so status.Rejected out err told is low = absurd is

  pub empty : (number : ℕ) (out err : List ℕ) → Says number out err → 4 ≤ number → out ≡ []
  empty number out err (inr ran) low = ran.1
  empty number out err (inl told) low =
      empty_so told.s out err told.ends (status_so told.s out err told.ends) (subst (λ n. 4 ≤ n) told.number_is low)

  one_of_six : (s : Status) (out err : List ℕ) → Told s out err → IsStatusOf asked s → (number_of s ≤ 4) ⊎ (number_of s ≡ 8)
  one_of_six status.Done out err told is = inl (omega arith)
  one_of_six status.Interference out err told is = inl (omega arith)
  one_of_six status.NoProgram out err told is = inl (omega arith)
  one_of_six status.Spent out err told is = inl (omega arith)
  one_of_six status.Refused out err told is = inl (omega arith)
  one_of_six status.ReadFault out err told is = absurd (not_risen (told.read refl))
  one_of_six status.WriteFault out err told is = absurd (not_risen (told.write refl))
  one_of_six status.Words out err told is = absurd is
  one_of_six status.Memory out err told is = inr refl
  one_of_six status.NotEnded out err told is = absurd is
  one_of_six status.Rejected out err told is = absurd is

  pub status_is : (number : ℕ) (out err : List ℕ) → Says number out err → (number ≤ 4) ⊎ (number ≡ 8)
  status_is number out err (inr ran) = inr ran.0
  status_is number out err (inl told) =
      subst (λ n. (n ≤ 4) ⊎ (n ≡ 8)) (sym told.number_is) (one_of_six told.s out err told.ends (status_so told.s out err told.ends))
