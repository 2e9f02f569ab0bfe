-- For each request and all files there is a decision.
use Rattle.std.proofs.Common.{◌≡◌, ◌≢◌, ◌≤◌, ℕ, List, [], ◌∷◌, length, Option, Some, None, IfSome, refl, ap, arith, codes}
use Rattle.std.specs.List.{AllByRecursion}
use Rattle.hpr_terms.specs.declared.limits.TheConstants.{DEFAULT_TRIES}
use Rattle.hpr_io.specs.Files.{Files}
use Rattle.hpr_syntax.specs.Print.{text}
use Rattle.hpr_syntax.specs.Shape.{IsProgram}
use Rattle.hpr_syntax.specs.Tree.{Tree}
use Rattle.hpr_graph.specs.declared.edge.Edge.{Edge}
use Rattle.hpr_graph.specs.declared.vertex.Vertex.{Vertex}
use Rattle.hpr_graph.specs.Conflicts.{told_as}
use Rattle.hpr_merge.proofs.SomeConflicts.{IsTellingOnce, told_once}
use Rattle.hpr_report.specs.ConflictsText.{conflicts_text}
use Rattle.hpr_edit.specs.Applied.{applied}
use Rattle.hpr_order.proofs.SomeRank.{some_rank}
use Rattle.hpr_words.specs.Request.{Request, Text, integrate, integrate_many, run, graph, slice, affected, trial, edit, tag, sample, verify, IsInRange}
use Rattle.hpr_decisions.specs.AffectedFiles.{AffectedPoints}
use Rattle.hpr_inputs.specs.Decision.{Decision, prints, usage}
use Rattle.hpr_decisions.specs.GraphFile.{Graphed}
use Rattle.hpr_decisions.specs.EditFiles.{OnScript, edit_decision}
use Rattle.hpr_inputs.specs.Files.{OnFile, OnFiles, OnAllFiles}
use Rattle.hpr_decisions.specs.Graphs.{OnAllGraphs}
use Rattle.hpr_decisions.specs.Integrate.{report_with, IntegratedBy, IsReportedBy, IsReportedWith, OutcomeBy}
use Rattle.hpr_decisions.specs.IntegrateMany.{Told, told_text}
use Rattle.hpr_decisions.specs.VerifyFiles.{IsVerified, report_verdict}
use Rattle.hpr_verify.proofs.SomeVerdict.{some_verdict}
use Rattle.hpr_decisions.specs.Outcome.{RequestOutcome, Outcome}
use Rattle.hpr_decisions.specs.RunFile.{Ran}
use Rattle.hpr_decisions.specs.SliceFile.{Sliced}
use Rattle.hpr_inputs.specs.States.{states_of}
use Rattle.hpr_decisions.specs.TrialFiles.{IsTried, Tried}
use Rattle.hpr_sample.specs.Sample as made
use Rattle.hpr_sample.specs.Sample.{IsSampleSize}
use Rattle.hpr_sample.proofs.SamplePrograms.{is_sample}
use Rattle.hpr_decisions.specs.Sampled.{IsSampled, SampleOutcome, sample_line}
use Rattle.hpr_inputs.specs.declared.answer.Kind.TheVariants.{Done}
use Rattle.hpr_engine.proofs.SomeAnswer.{some_answer, some_answer_by}
use Rattle.hpr_decisions.proofs.TotalFiles.{on_script, on_untagged}
use Rattle.hpr_decisions.proofs.TotalGraphs.{on_all_graphs, graphed, sliced, affected_points}
use Rattle.hpr_decisions.proofs.TotalTables.{tried}
use Rattle.hpr_inputs.proofs.SomeDecision.{HasOne, on_all_files, on_file, on_files, on_state}

module _ {X : Type 0} (show : Tree → List ℕ) (at : X → ℕ × Vertex × Edge) (once : IsTellingOnce at) (say : List X → List ℕ) where
  reported : (p : Tree) (ps : List Tree) (tries : ℕ) → IsProgram p → AllByRecursion IsProgram ps → ps ≢ [] → HasOne (IsReportedWith show at say p ps tries)
  reported p ps tries is all some n =
      some_answer_by at once p ps is all (some_rank p ps some) tries (λ x. n (report_with show say tries x.0, (x.0, x.1, refl)))

sample_decided : (seed parts : ℕ) → IsSampleSize parts → HasOne (SampleOutcome seed parts)
sample_decided seed parts size n =
    let three = made.sample seed parts in
    let is = is_sample seed parts size in
    on_all_graphs (codes "base" ∷ codes "A" ∷ codes "B" ∷ []) (three.base ∷ three.a ∷ three.b ∷ []) (IsSampled seed parts three.base three.a three.b)
    (reported (sample_line seed parts three.base three.a three.b) told_as told_once conflicts_text three.base (three.a ∷ three.b ∷ []) DEFAULT_TRIES is.base (is.a, (is.b, tt)) (λ e. absurd cc))
    (λ found. n (found.0, (size, found.1)))

module _ {X : Type 0} (at : X → ℕ × Vertex × Edge) (once : IsTellingOnce at) (say : List X → List ℕ) where
  integrated : (fs : Files) (base : Text) (names : List Text) (tries : ℕ) → 1 ≤ length names → HasOne (OutcomeBy at say fs base names tries)
  integrated fs base names tries some =
      on_file fs base (λ p r. OnAllFiles fs names (λ ps. IntegratedBy at say base p names ps tries r) r) (λ p is.
      on_all_files fs names (λ ps r. IntegratedBy at say base p names ps tries r) (λ ps count all.
      on_all_graphs (base ∷ names) (p ∷ ps) (IsReportedBy at say p ps tries)
      (reported text at once say p ps tries is all (λ none. (let e = ap (λ (qs : List Tree). length qs) none in omega (arith, some, count, e))))))

module _ (fs : Files) where
  request_decided : (request : Request) → IsInRange request → HasOne (RequestOutcome request fs)
  request_decided (integrate base a b tries) range = integrated told_as told_once conflicts_text fs base (a ∷ b ∷ []) tries (omega arith)
  request_decided (integrate_many base variants tries) range = integrated {X = Told} (λ t. t) (λ x y e. e) told_text fs base variants tries (omega (arith, range.0))
  request_decided (run file words steps trace) range =
      on_state (states_of words) (λ state r. OnFile fs file (λ p. Ran p state steps trace r) r) (λ state.
      on_file fs file (λ p r. Ran p state steps trace r) (λ p _ n. n (_, refl)))
  request_decided (graph file json) range = on_file fs file (λ p r. Graphed file p json r) (λ p _. graphed file p json)
  request_decided (slice file points program) range = on_file fs file (λ p r. Sliced file p points program r) (λ p _. sliced file p points program)
  request_decided (affected base a) range =
      on_file fs base (λ p r. OnFile fs a (λ q. AffectedPoints base p a q r) r) (λ p _.
      on_file fs a (λ q r. AffectedPoints base p a q r) (λ q _. affected_points base p a q))
  request_decided (trial base a b words steps) range =
      on_state (states_of words) (λ state r. OnFiles fs base a b (λ p q s. Tried base p a q b s state steps r) r) (λ state.
      on_files fs base a b (λ p q s r. Tried base p a q b s state steps r) (λ p q s is_p is_q is_s.
      on_all_graphs (base ∷ a ∷ b ∷ []) (p ∷ q ∷ s ∷ []) (IsTried p q s state steps) (tried p q s state steps (some_answer p q s is_p is_q is_s DEFAULT_TRIES))))
  request_decided (edit file words author) range =
      on_file fs file (λ p r. OnScript fs words (λ cs. r ≡ edit_decision words (applied p cs author)) r) (λ p _.
      on_script fs words (λ cs r. r ≡ edit_decision words (applied p cs author)) (λ cs n. n (edit_decision words (applied p cs author), refl)))
  request_decided (tag file author) range =
      on_untagged fs file author (λ p r. r ≡ prints Done (text p)) (omega (arith, range.1)) (λ p _ n. n (prints Done (text p), refl))
  request_decided (sample seed parts) range = sample_decided seed parts (range.1, range.2)
  request_decided (verify base a b m) range =
      on_files fs base a b (λ p q s r. OnFile fs m (λ o. OnAllGraphs (base ∷ a ∷ b ∷ m ∷ []) (p ∷ q ∷ s ∷ o ∷ []) (IsVerified p q s o r) r) r) (λ p q s is_p is_q is_s.
      on_file fs m (λ o r. OnAllGraphs (base ∷ a ∷ b ∷ m ∷ []) (p ∷ q ∷ s ∷ o ∷ []) (IsVerified p q s o r) r) (λ o is_o.
      on_all_graphs (base ∷ a ∷ b ∷ m ∷ []) (p ∷ q ∷ s ∷ o ∷ []) (IsVerified p q s o) (λ n.
      some_verdict p q s o (λ v. n (report_verdict v.0, (v.0, v.1, refl))))))

pub has_decision : (request : Option Request) (fs : Files) → IfSome request IsInRange → ¬ (¬ ((r : Decision) × Outcome request fs r))
has_decision None fs range n = n (usage, refl)
has_decision (Some request) fs range n = request_decided fs request range n
