-- What is decided of an integration of three programs.
use Rattle.std.proofs.Common.{◌≡◌, ℕ, List, refl, inl, inr, Err, Result, IsErrOf}
use Rattle.hpr_syntax.specs.Tree.{Tree}
use Rattle.hpr_graph.specs.Answer.{Answer, interference, printed, no_program, spent, IsAnswer}
use Rattle.hpr_engine.specs.Answers.{IfInterference, IfJudged, IfNoProgram, IfTooManyEdges, IsFirstTooLarge}
use Rattle.hpr_engine.specs.Limit.{AreInLimit}
use Rattle.hpr_engine.specs.declared.stop.Stop as engine
use Rattle.hpr_engine.specs.declared.stop.Stop.TheVariants.{TooManyEdges, Interference, NoProgram, Spent, Memory}
use Rattle.hpr_engine.specs.declared.stop.Which.{Which}
use Rattle.hpr_engine.specs.declared.stop.Which.TheVariants as which
use Rattle.hpr_inputs.specs.Answer.{Merges}
use Rattle.hpr_inputs.specs.Decision.{Decision, refuses}
use Rattle.hpr_decisions.specs.Graphs.{OnGraphs, too_many_edges}
use Rattle.hpr_decisions.specs.Integrate.{report}
use Rattle.hpr_app.specs.Private.Stopped.{file_of, IsStopped}
use Rattle.hpr_inputs.specs.declared.answer.Report.{Report}
use Rattle.hpr_inputs.specs.declared.answer.Stop.{Stop}
use Rattle.hpr_inputs.proofs.ReadLemmas.{merges_map}

-- an answer without a program
abbrev pub IsUnprinted : Answer → Type 0
IsUnprinted (interference cs) = Unit {0}
IsUnprinted (printed m) = ⊥
IsUnprinted (no_program n) = Unit {0}
IsUnprinted spent = Unit {0}

-- `next` is what is decided behind the graphs of the programs; what reports an answer without a program is so
module _ (base a b : List ℕ) (p q r : Tree) (tries : ℕ) (next : Decision → Type 0)
    (reported : (x : Answer) (d : Decision) → IsUnprinted x → IsAnswer p q r tries x → d ≡ report tries x → next d) where
  abbrev pub Decided : Decision → Type 0
  Decided d = OnGraphs base p a q b r (next d) d

  too_large : (w : Which) (d : Decision) → IsFirstTooLarge p q r w → d ≡ refuses (too_many_edges (file_of w base a b)) → Decided d
  too_large which.Base d many e = inl (many, e)
  too_large which.A d (few, many) e = inr (few, inl (many, e))
  too_large which.B d (few, (few_too, many)) e = inr (few, inr (few_too, inl (many, e)))

  within : (d : Decision) → AreInLimit p q r → next d → Decided d
  within d (few, (few_too, few_three)) h = inr (few, inr (few_too, inr (few_three, h)))

  stop_decided : (s : engine.Stop) → IfTooManyEdges {X = Tree} (Err s) (IsFirstTooLarge p q r) → IfJudged {X = Tree} (Err s) (AreInLimit p q r)
      → IfInterference {X = Tree} (Err s) (λ cs. IsAnswer p q r tries (interference cs)) → IfNoProgram {X = Tree} (Err s) (λ n. IsAnswer p q r tries (no_program n))
      → (IsErrOf {T = Tree} (Err s) Spent → IsAnswer p q r tries spent) → (d : Decision) → IsStopped base a b tries s d → Decided d
  stop_decided (TooManyEdges w) large few cs none over d is = too_large w d large is
  stop_decided (Interference conflicts) large few cs none over d is = within d few (reported (interference conflicts.items) d tt cs is)
  stop_decided (NoProgram n) large few cs none over d is = within d few (reported (no_program n) d tt none is)
  stop_decided Spent large few cs none over d is = within d few (reported spent d tt (over refl) is)
  stop_decided Memory large few cs none over d is = absurd is

  -- where the integration stops without a program
  pub stop_merges : (s : engine.Stop) (result : Result Report Stop) → IfTooManyEdges {X = Tree} (Err s) (IsFirstTooLarge p q r) → IfJudged {X = Tree} (Err s) (AreInLimit p q r)
      → IfInterference {X = Tree} (Err s) (λ cs. IsAnswer p q r tries (interference cs)) → IfNoProgram {X = Tree} (Err s) (λ n. IsAnswer p q r tries (no_program n))
      → (IsErrOf {T = Tree} (Err s) Spent → IsAnswer p q r tries spent) → Merges (IsStopped base a b tries s) result → Merges Decided result
  stop_merges s result large few cs none over h =
      merges_map (IsStopped base a b tries s) Decided (λ d is. stop_decided s large few cs none over d is) result h

  -- where it gives one
  pub program_merges : (P : Decision → Type 0) (result : Result Report Stop) → AreInLimit p q r → ((d : Decision) → P d → next d) → Merges P result → Merges Decided result
  program_merges P result few f h = merges_map P Decided (λ d is. within d few (f d is)) result h
