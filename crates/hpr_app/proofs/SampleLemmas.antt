-- What is decided of a sample.
use Rattle.std.proofs.Common.{◌≡◌, ℕ, List, Option, Ok, Err, Result, refl, subst, arith, codes}
use Rattle.hpr_terms.specs.declared.limits.TheConstants.{DEFAULT_TRIES}
use Rattle.hpr_io.specs.Files.{Files}
use Rattle.hpr_syntax.specs.Tree.{Tree}
use Rattle.hpr_graph.specs.Answer.{Answer, interference, printed, no_program, spent, IsAnswer}
use Rattle.hpr_sample.specs.Sample.{IsSampleSize, sample}
use Rattle.hpr_inputs.specs.Answer.{Decides, Merges}
use Rattle.hpr_inputs.specs.Decision.{Decision}
use Rattle.hpr_inputs.specs.Reads.{IfTold}
use Rattle.hpr_inputs.specs.declared.answer.Report.{Report}
use Rattle.hpr_inputs.specs.declared.answer.Stop.{Stop}
use Rattle.hpr_inputs.specs.declared.answer.Stop.TheVariants as stop
use Rattle.hpr_inputs.proofs.ReadLemmas.{merges_map}
use Rattle.hpr_decisions.specs.Graphs.{OnGraphs}
use Rattle.hpr_decisions.specs.Integrate.{report}
use Rattle.hpr_decisions.specs.Sampled.{IsSampled, SampleOutcome}
use Rattle.hpr_app.proofs.IntegrateLemmas.{IsUnprinted}

-- what reports an answer without a program is decided of a sample
pub unprinted_sampled : (seed parts : ℕ) (p q s : Tree) (x : Answer) (d : Decision) → IsUnprinted x → IsAnswer p q s DEFAULT_TRIES x → d ≡ report DEFAULT_TRIES x
    → IsSampled seed parts p q s d
unprinted_sampled seed parts p q s (interference cs) d none answer is = (interference cs, answer, is)
unprinted_sampled seed parts p q s (printed m) d none answer is = absurd none
unprinted_sampled seed parts p q s (no_program n) d none answer is = (no_program n, answer, is)
unprinted_sampled seed parts p q s spent d none answer is = (spent, answer, is)

-- behind the graphs of three programs
abbrev pub OnThree : (seed parts : ℕ) → (p q s : Tree) → Decision → Type 0
OnThree seed parts p q s d = OnGraphs (codes "base") p (codes "A") q (codes "B") s (IsSampled seed parts p q s d) d

-- what is decided of the three programs of the sample is the outcome
pub of_set : (seed parts : ℕ) → IsSampleSize parts → (p q s : Tree) → p ≡ (sample seed parts).base → q ≡ (sample seed parts).a → s ≡ (sample seed parts).b
    → (result : Result Report Stop) → Merges (OnThree seed parts p q s) result → Merges (SampleOutcome seed parts) result
of_set seed parts size p q s base_is a_is b_is result h =
    merges_map (OnThree seed parts p q s) (SampleOutcome seed parts) (λ d o. (size, at d o)) result h
  where
    at : (d : Decision) → OnThree seed parts p q s d → OnThree seed parts (sample seed parts).base (sample seed parts).a (sample seed parts).b d
    at d o =
        subst (λ (t : Tree). OnThree seed parts (sample seed parts).base (sample seed parts).a t d) b_is
        (subst (λ (t : Tree). OnThree seed parts (sample seed parts).base t s d) a_is
        (subst (λ (t : Tree). OnThree seed parts t q s d) base_is o))

-- a result that reads no file
pub unread : (told : Option Files) (P : Decision → Type 0) (reads : List ℕ → Type 0) (count : ℕ) (result : Result Report Stop) → Merges P result
    → Decides (λ r. IfTold told (λ files. P r)) reads count count result
unread told P reads count (Ok report) h = (λ files is. h, refl)
unread told P reads count (Err (stop.Refused message)) h = (λ files is. h, refl)
unread told P reads count (Err (stop.ReadFault message)) h = absurd h
unread told P reads count (Err stop.Memory) h = omega arith
