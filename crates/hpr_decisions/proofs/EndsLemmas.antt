-- How a call ends, for a request and files that are known by other names.
use Rattle.std.proofs.Common.{◌≡◌, ℕ, List, refl, subst, Option, Some}
use Rattle.hpr_io.specs.Taken.{taken_then}
use Rattle.hpr_io.specs.Files.{Files}
use Rattle.hpr_words.specs.Request.{Request}
use Rattle.hpr_decisions.specs.Asked.{Took}
use Rattle.hpr_decisions.specs.Outcome.{RequestOutcome, Outcome, OutcomeIfTold}
use Rattle.hpr_decisions.specs.Reads.{MayReadIfTaken, ReadsNothing}
use Rattle.hpr_inputs.specs.Decision.{Decision, prints}
use Rattle.hpr_decisions.specs.Ends.{Change, Ends, Decided, status_of, text_of}
use Rattle.hpr_inputs.specs.declared.answer.Kind.TheVariants as kind
use Rattle.hpr_decisions.specs.declared.status.Status.{Status}
use Rattle.hpr_decisions.specs.declared.status.Status.TheVariants as status

pub Ends-for : (s : Status) (p q : Option Request) (files : Option Files) (before now : ℕ) (out err : Change)
    → p ≡ q → Ends s (OutcomeIfTold p files) (MayReadIfTaken p files) before now out err → Ends s (OutcomeIfTold q files) (MayReadIfTaken q files) before now out err
Ends-for s p q files before now out err e h = subst (λ r. Ends s (OutcomeIfTold r files) (MayReadIfTaken r files) before now out err) e h

-- the same of a call that reads nothing
pub Unread-for : (s : Status) (p q : Option Request) (told : Option Files) (before now : ℕ) (out err : Change) → p ≡ q
    → (ReadsNothing p → (fs : Files) → Ends s (Outcome p fs) (MayReadIfTaken p told) before now out err)
    → ReadsNothing q → (fs : Files) → Ends s (Outcome q fs) (MayReadIfTaken q told) before now out err
Unread-for s p q told before now out err e h =
    subst (λ r. ReadsNothing r → (fs : Files) → Ends s (Outcome r fs) (MayReadIfTaken r told) before now out err) e h

-- what is so of each text of the status Done is so of what the output took
module _ (P : Request → Files → List ℕ → Type 0)
    (shown : (request : Request) (fs : Files) (bytes : List ℕ) → RequestOutcome request fs (prints kind.Done bytes) → P request fs bytes)
    (request : Request) (fs : Files) where
  decision_took : (r : Decision) (old new : Option (List ℕ)) → status.Done ≡ status_of r → RequestOutcome request fs r → new ≡ taken_then old (text_of r)
      → Took old new (P request fs)
  decision_took (prints kind.Done bytes) old new e o took = (bytes, took, shown request fs bytes o)
  decision_took _ old new e o took = absurd cc

  pub done_took : (reads : List ℕ → Type 0) (s : Status) (before now : ℕ) (out err : Change) → s ≡ status.Done
      → Ends s (OutcomeIfTold (Some request) (Some fs)) reads before now out err → Took out.old out.new (P request fs)
  done_took reads s before now out err e h =
      let d : Decided status.Done (OutcomeIfTold (Some request) (Some fs)) before now out err =
      subst (λ x. Ends x (OutcomeIfTold (Some request) (Some fs)) reads before now out err) e h in
      decision_took d.r out.old out.new d.status_is (d.outcome fs refl) d.took
