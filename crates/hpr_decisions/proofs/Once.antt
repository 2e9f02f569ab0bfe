-- The words and the files make one decision.
use Rattle.std.proofs.Common.{◌≡◌, ℕ, List, [], ◌∷◌, refl, sym, ap, ◌∙◌, subst, inl, inr, Option, Some, None, Result, Ok, Err, codes}
use Rattle.std.specs.List.{AllByRecursion}
use Rattle.hpr_terms.specs.declared.limits.TheConstants.{DEFAULT_TRIES}
use Rattle.hpr_io.specs.Counts.{Rose}
use Rattle.hpr_io.specs.Files.{Files, bytes_of}
use Rattle.hpr_syntax.specs.Grammar.{tagged, untagged}
use Rattle.hpr_syntax.specs.Print.{text}
use Rattle.hpr_syntax.specs.Shape.{IsProgram}
use Rattle.hpr_syntax.specs.Tree.{Tree}
use Rattle.hpr_syntax.specs.Values.{Values}
use Rattle.hpr_graph.specs.Graphs.{Graph}
use Rattle.hpr_graph.specs.Points.{IsAffected}
use Rattle.hpr_graph.specs.ProgramGraph.{graph_of}
use Rattle.hpr_graph.specs.Slices.{slice_of}
use Rattle.hpr_report.specs.AffectedText.{IsAffectedText}
use Rattle.hpr_report.proofs.OneText.{one_affected_text}
use Rattle.hpr_decisions.specs.Complete.{IsRefusedCall}
use Rattle.hpr_inputs.specs.Decision.{Decision, OnRead, Prints, prints, refuses}
use Rattle.hpr_decisions.specs.Ends.{Change, Ends, Decided, SaysIfAny, has_text, message_of, status_of}
use Rattle.hpr_decisions.specs.GraphFile.{IsShown}
use Rattle.hpr_decisions.specs.SliceFile.{IsSliceShown}
use Rattle.hpr_decisions.specs.Graphs.{OnAllGraphs, OnGraph}
use Rattle.hpr_graph.specs.declared.edge.Edge.{Edge}
use Rattle.hpr_graph.specs.declared.vertex.Vertex.{Vertex}
use Rattle.hpr_graph.specs.Answer.{AnswerBy, interference, printed, no_program, spent}
use Rattle.hpr_graph.specs.Conflicts.{told_as}
use Rattle.hpr_engine.specs.Budget as budget
use Rattle.hpr_engine.proofs.OneAnswer.{one_answer_by}
use Rattle.hpr_report.specs.ConflictsText.{conflicts_text}
use Rattle.hpr_inputs.specs.Files.{OnFile, OnFiles, OnAllFiles}
use Rattle.hpr_decisions.specs.Integrate.{report_with, spent_text, no_program_text, IsReportedBy, IsReportedWith, IntegratedBy, OutcomeBy}
use Rattle.hpr_decisions.specs.IntegrateMany.{Told, told_text}
use Rattle.hpr_verify.proofs.Verdicts.{one_verdict}
use Rattle.hpr_decisions.specs.VerifyFiles.{IsVerified, report_verdict}
use Rattle.hpr_decisions.specs.Outcome.{RequestOutcome, Outcome, OutcomeIfTold, HasSearched, AgreeButForBudget}
use Rattle.hpr_inputs.specs.Points.{IsNamed, IsPoint, OnPoints, no_such_point}
use Rattle.hpr_edit.specs.declared.command.Command.{Command}
use Rattle.hpr_edit.specs.Applied.{applied}
use Rattle.hpr_refusals.specs.Refusals.{IsFileIn, IsFileOf, IsOne, IsRefused, IsRefusedIn, IsRefusedScript, IsScriptOf}
use Rattle.hpr_refusals.proofs.Once.{one_file, one_script_file}
use Rattle.hpr_decisions.specs.EditFiles.{OnScript, OnUntagged, edit_decision}
use Rattle.hpr_inputs.specs.States.{OnState, RefusedWord, states_of}
use Rattle.hpr_decisions.specs.TrialFiles.{IsTried, Tried}
use Rattle.hpr_sample.specs.Sample as made
use Rattle.hpr_sample.proofs.SamplePrograms.{is_sample}
use Rattle.hpr_decisions.specs.Sampled.{IsSampled, sample_line}
use Rattle.hpr_words.specs.Request.{Request, Text, integrate, integrate_many, run, graph, slice, affected, trial, edit, tag, sample, verify}
use Rattle.hpr_inputs.specs.declared.answer.Kind.TheVariants.{Done, Interference}
use Rattle.hpr_decisions.specs.declared.status.Status.{Status}
use Rattle.hpr_decisions.specs.declared.status.Status.TheVariants as status
use Rattle.hpr_decisions.proofs.GraphLemmas.{one_shown, one_slice_shown}
use Rattle.hpr_decisions.proofs.TrialLemmas.{one_tried}
use Rattle.hpr_inputs.proofs.PointLemmas.{not_stranger, one_stranger}

-- where one text has P, what prints it is one decision
one_printed : (P : List ℕ → Type 0) → ((x y : List ℕ) → P x → P y → x ≡ y) → (r s : Decision) → Prints P r → Prints P s → r ≡ s
one_printed P one r s (x, h, is) (y, k, so) = is ∙ ap (prints Done) (one x y h k) ∙ sym so

-- answers that agree are reported so
module _ {X : Type 0} (show : Tree → List ℕ) (say : List X → List ℕ) (tries : ℕ) where
  abbrev Report : AnswerBy X → Decision
  Report x = report_with show say tries x

  searched : (x : AnswerBy X) (r : Decision) → budget.HasSearched x → r ≡ Report x → HasSearched r
  searched (interference cs) r h is = absurd h
  searched (printed m) r h is = (show m, inl is)
  searched (no_program n) r h is = (no_program_text n, inr (inl is))
  searched spent r h is = absurd h

  agree_reported : (x y : AnswerBy X) (r s : Decision) → budget.Agree x y → r ≡ Report x → s ≡ Report y → AgreeButForBudget r s
  agree_reported x y r s (inl e) is so = inl (is ∙ ap Report e ∙ sym so)
  agree_reported x y r s (inr (inl (e, h))) is so = inr (inl ((spent_text tries, is ∙ ap Report e), searched y s h so))
  agree_reported x y r s (inr (inr (h, e))) is so = inr (inr (searched x r h is, (spent_text tries, so ∙ ap Report e)))

one_reported : {X : Type 0} (show : Tree → List ℕ) (at : X → ℕ × Vertex × Edge) (say : List X → List ℕ) (r s : Decision) (p : Tree) (ps : List Tree) (tries : ℕ) → IsProgram p → AllByRecursion IsProgram ps
    → IsReportedWith show at say p ps tries r → IsReportedWith show at say p ps tries s → AgreeButForBudget r s
one_reported show at say r s p ps tries is_p all (x, answer, is) (y, answer_too, so) =
    agree_reported show say tries x y r s (one_answer_by at p ps is_p all tries x y answer answer_too) is so

one_verified : (r s : Decision) (p q o m : Tree) → IsVerified p q o m r → IsVerified p q o m s → AgreeButForBudget r s
one_verified r s p q o m (v, judged, is) (w, judged_too, so) = inl (is ∙ ap report_verdict (one_verdict p q o m v w judged judged_too) ∙ sym so)

one_on_graph : (r s : Decision) (file : Text) (p : Tree) (next also : Type 0) → (next → also → AgreeButForBudget r s) → OnGraph file p next r → OnGraph file p also s → AgreeButForBudget r s
one_on_graph r s file p next also rest (inl (_, is)) (inl (_, so)) = inl (is ∙ sym so)
one_on_graph r s file p next also rest (inl (many, _)) (inr (few, _)) = absurd (few many)
one_on_graph r s file p next also rest (inr (few, _)) (inl (many, _)) = absurd (few many)
one_on_graph r s file p next also rest (inr (_, h)) (inr (_, k)) = rest h k

one_on_all_graphs : (r s : Decision) (names : List Text) (ps : List Tree) (next also : Type 0) → (next → also → AgreeButForBudget r s) → OnAllGraphs names ps next r → OnAllGraphs names ps also s
    → AgreeButForBudget r s
one_on_all_graphs r s [] ps next also rest h k = rest h k
one_on_all_graphs r s (name ∷ names) [] next also rest h k = rest h k
one_on_all_graphs r s (name ∷ names) (p ∷ ps) next also rest h k = one_on_graph r s name p _ _ (λ h k. one_on_all_graphs r s names ps next also rest h k) h k

one_on_points : (r s : Decision) (g : Graph) (words : List Text) (next also : Type 0) → (next → also → AgreeButForBudget r s) → OnPoints g words next r → OnPoints g words also s → AgreeButForBudget r s
one_on_points r s g words next also rest (inl (x, h, is)) (inl (y, k, so)) =
    inl (is ∙ ap (λ w. refuses (no_such_point w)) (one_stranger (IsNamed g) words x y h k) ∙ sym so)
one_on_points r s g words next also rest (inl (x, h, _)) (inr (all, _)) = absurd (not_stranger (IsNamed g) words x h all)
one_on_points r s g words next also rest (inr (all, _)) (inl (y, k, _)) = absurd (not_stranger (IsNamed g) words y k all)
one_on_points r s g words next also rest (inr (_, h)) (inr (_, k)) = rest h k

module _ (fs : Files) (r s : Decision) where
  one_on_read : {A : Type 0} (refused : List ℕ → Type 0) (is : A → Type 0) → IsOne refused is → (next also : A → Type 0)
      → ((a : A) → is a → next a → also a → AgreeButForBudget r s) → OnRead refused is next r → OnRead refused is also s → AgreeButForBudget r s
  one_on_read refused is one next also rest (inl (k, h, e)) (inl (l, g, f)) = inl (e ∙ ap refuses (one.message k l h g) ∙ sym f)
  one_on_read refused is one next also rest (inl (k, h, _)) (inr (a, ha, _)) = absurd (one.apart k a h ha)
  one_on_read refused is one next also rest (inr (a, ha, _)) (inl (k, h, _)) = absurd (one.apart k a h ha)
  one_on_read refused is one next also rest (inr (a, ha, h)) (inr (b, hb, k)) = rest a ha h (subst also (one.value b a hb ha) k)

  one_on_file : (file : List ℕ) (next also : Tree → Type 0) → ((p : Tree) → IsFileOf (bytes_of fs file) p → next p → also p → AgreeButForBudget r s) → OnFile fs file next r → OnFile fs file also s → AgreeButForBudget r s
  one_on_file file next also rest h k =
      one_on_read (IsRefused file (bytes_of fs file)) (IsFileOf (bytes_of fs file)) (one_file tagged (bytes_of fs file) file) next also rest h k

  one_on_script : (script : List ℕ) (next also : List Command → Type 0) → ((cs : List Command) → next cs → also cs → AgreeButForBudget r s)
      → OnScript fs script next r → OnScript fs script also s → AgreeButForBudget r s
  one_on_script script next also rest h k =
      let bytes = bytes_of fs script in
      one_on_read (IsRefusedScript script bytes) (IsScriptOf bytes) (one_script_file script bytes) next also (λ cs hc h k. rest cs h k) h k

  one_on_untagged : (file : List ℕ) (author : ℕ) (next also : Tree → Type 0) → ((p : Tree) → next p → also p → AgreeButForBudget r s)
      → OnUntagged fs file author next r → OnUntagged fs file author also s → AgreeButForBudget r s
  one_on_untagged file author next also rest h k =
      let form = untagged author in
      let bytes = bytes_of fs file in
      one_on_read (IsRefusedIn form file bytes) (IsFileIn form bytes) (one_file form bytes file) next also (λ p hp h k. rest p h k) h k

  one_on_state : (told : Result Values RefusedWord) (next also : Values → Type 0) → ((state : Values) → next state → also state → AgreeButForBudget r s) → OnState told next r → OnState told also s → AgreeButForBudget r s
  one_on_state (Ok state) next also rest h k = rest state h k
  one_on_state (Err refused) next also rest h k = inl (h ∙ sym k)

  one_on_files : (base a b : List ℕ) (next also : Tree → Tree → Tree → Type 0) → ((p q o : Tree) → IsProgram p → IsProgram q → IsProgram o → next p q o → also p q o → AgreeButForBudget r s)
      → OnFiles fs base a b next r → OnFiles fs base a b also s → AgreeButForBudget r s
  one_on_files base a b next also rest h k =
      one_on_file base _ _ (λ p hp h k. one_on_file a _ _ (λ q hq h k. one_on_file b _ _ (λ o ho h k. rest p q o hp.program hq.program ho.program h k) h k) h k) h k

  one_on_all_files : (names : List Text) (next also : List Tree → Type 0) → ((ps : List Tree) → AllByRecursion IsProgram ps → next ps → also ps → AgreeButForBudget r s)
      → OnAllFiles fs names next r → OnAllFiles fs names also s → AgreeButForBudget r s
  one_on_all_files [] next also rest h k = rest [] tt h k
  one_on_all_files (n ∷ ns) next also rest h k =
      one_on_file n _ _ (λ p hp h k. one_on_all_files ns (λ ps. next (p ∷ ps)) (λ ps. also (p ∷ ps)) (λ ps all h k. rest (p ∷ ps) (hp.program, all) h k) h k) h k

  one_of : {X : Type 0} (at : X → ℕ × Vertex × Edge) (say : List X → List ℕ) (base : Text) (names : List Text) (tries : ℕ) → OutcomeBy at say fs base names tries r → OutcomeBy at say fs base names tries s
      → AgreeButForBudget r s
  one_of at say base names tries h k =
      one_on_file base (λ p. OnAllFiles fs names (λ ps. IntegratedBy at say base p names ps tries r) r) (λ p. OnAllFiles fs names (λ ps. IntegratedBy at say base p names ps tries s) s)
      (λ p hp h k. one_on_all_files names (λ ps. IntegratedBy at say base p names ps tries r) (λ ps. IntegratedBy at say base p names ps tries s)
      (λ ps all h k. one_on_all_graphs r s (base ∷ names) (p ∷ ps) (IsReportedBy at say p ps tries r) (IsReportedBy at say p ps tries s)
      (λ h k. one_reported text at say r s p ps tries hp.program all h k) h k) h k) h k

  one_outcome : (request : Request) → RequestOutcome request fs r → RequestOutcome request fs s → AgreeButForBudget r s
  one_outcome (integrate base a b tries) h k = one_of told_as conflicts_text base (a ∷ b ∷ []) tries h k
  one_outcome (integrate_many base variants tries) h k = one_of {X = Told} (λ t. t) told_text base variants tries h k
  one_outcome (run file words steps trace) h k = one_on_state (states_of words) _ _ (λ state h k. one_on_file file _ _ (λ p hp h k. inl (h ∙ sym k)) h k) h k
  one_outcome (graph file json) h k =
      one_on_file file _ _ (λ p hp h k. one_on_graph r s file p _ _ (λ h k. inl (one_printed (IsShown json (graph_of p)) (one_shown json (graph_of p)) r s h k)) h k) h k
  one_outcome (slice file points program) h k =
      one_on_file file _ _
      (λ p hp h k. one_on_graph r s file p _ _
      (λ h k. one_on_points r s (graph_of p) points _ _
      (λ h k. (let part = slice_of (graph_of p) (IsPoint points) in inl (one_printed (IsSliceShown program p part) (one_slice_shown program p part) r s h k))) h k) h k) h k
  one_outcome (affected base a) h k =
      one_on_file base _ _
      (λ p hp h k. one_on_file a _ _
      (λ q hq h k. one_on_graph r s base p _ _
      (λ h k. one_on_graph r s a q _ _
      (λ h k. (let P = IsAffected (graph_of q) (graph_of p) in inl (one_printed (IsAffectedText P) (one_affected_text P) r s h k))) h k) h k) h k) h k
  one_outcome (trial base a b words steps) h k =
      one_on_state (states_of words) (λ state. OnFiles fs base a b (λ p q o. Tried base p a q b o state steps r) r) (λ state. OnFiles fs base a b (λ p q o. Tried base p a q b o state steps s) s)
      (λ state h k. one_on_files base a b (λ p q o. Tried base p a q b o state steps r) (λ p q o. Tried base p a q b o state steps s)
      (λ p q o is_p is_q is_o h k. one_on_all_graphs r s (base ∷ a ∷ b ∷ []) (p ∷ q ∷ o ∷ []) (IsTried p q o state steps r) (IsTried p q o state steps s)
      (λ h k. one_tried p q o state steps r s is_p is_q is_o h k) h k) h k) h k
  one_outcome (edit file script author) h k =
      one_on_file file (λ p. OnScript fs script (λ cs. r ≡ edit_decision script (applied p cs author)) r) (λ p. OnScript fs script (λ cs. s ≡ edit_decision script (applied p cs author)) s)
      (λ p hp h k. one_on_script script (λ cs. r ≡ edit_decision script (applied p cs author)) (λ cs. s ≡ edit_decision script (applied p cs author))
      (λ cs h k. inl (h ∙ sym k)) h k) h k
  one_outcome (tag file author) h k =
      one_on_untagged file author (λ p. r ≡ prints Done (text p)) (λ p. s ≡ prints Done (text p)) (λ p h k. inl (h ∙ sym k)) h k
  one_outcome (sample seed parts) (size, h) (size_too, k) =
      let three = made.sample seed parts in
      let is = is_sample seed parts size in
      one_on_all_graphs r s (codes "base" ∷ codes "A" ∷ codes "B" ∷ []) (three.base ∷ three.a ∷ three.b ∷ [])
      (IsSampled seed parts three.base three.a three.b r) (IsSampled seed parts three.base three.a three.b s)
      (λ h k. one_reported (sample_line seed parts three.base three.a three.b) told_as conflicts_text r s three.base (three.a ∷ three.b ∷ []) DEFAULT_TRIES is.base (is.a, (is.b, tt)) h k) h k
  one_outcome (verify base a b m) h k =
      one_on_files base a b (λ p q o. OnFile fs m (λ t. Judges p q o t r) r) (λ p q o. OnFile fs m (λ t. Judges p q o t s) s)
      (λ p q o is_p is_q is_o h k. one_on_file m (λ t. Judges p q o t r) (λ t. Judges p q o t s)
      (λ t ht h k. one_on_all_graphs r s (base ∷ a ∷ b ∷ m ∷ []) (p ∷ q ∷ o ∷ t ∷ []) (IsVerified p q o t r) (IsVerified p q o t s)
      (λ h k. one_verified r s p q o t h k) h k) h k) h k
    where
      Judges : Tree → Tree → Tree → Tree → Decision → Type 0
      Judges p q o t d = OnAllGraphs (base ∷ a ∷ b ∷ m ∷ []) (p ∷ q ∷ o ∷ t ∷ []) (IsVerified p q o t d) d

pub one_decision : (request : Option Request) (fs : Files) (r s : Decision) → Outcome request fs r → Outcome request fs s → AgreeButForBudget r s
one_decision None fs r s h k = inl (h ∙ sym k)
one_decision (Some request) fs r s h k = one_outcome fs r s request h k

-- what has nothing to do with the budget is one decision
agree_refused : (r : Decision) (m : List ℕ) → AgreeButForBudget r (refuses m) → r ≡ refuses m
agree_refused r m (inl e) = e
agree_refused r m (inr (inl (spent_is, (text, inl e)))) = absurd cc
agree_refused r m (inr (inl (spent_is, (text, inr (inl e))))) = absurd cc
agree_refused r m (inr (inl (spent_is, (text, inr (inr e))))) = absurd cc
agree_refused r m (inr (inr (searched_is, (text, e)))) = absurd cc

agree_interference : (r : Decision) (bytes : List ℕ) → AgreeButForBudget r (prints Interference bytes) → r ≡ prints Interference bytes
agree_interference r bytes (inl e) = e
agree_interference r bytes (inr (inl (spent_is, (text, inl e)))) = absurd cc
agree_interference r bytes (inr (inl (spent_is, (text, inr (inl e))))) = absurd cc
agree_interference r bytes (inr (inl (spent_is, (text, inr (inr e))))) = absurd cc
agree_interference r bytes (inr (inr (searched_is, (text, e)))) = absurd cc

pub one_interference : (request : Request) (fs : Files) (r : Decision) (bytes : List ℕ) → RequestOutcome request fs r
    → RequestOutcome request fs (prints Interference bytes) → r ≡ prints Interference bytes
one_interference request fs r bytes h k = agree_interference r bytes (one_decision (Some request) fs r (prints Interference bytes) h k)

module _ (request : Request) (fs : Files) (reads : List ℕ → Type 0) (before now : ℕ) (out err : Change) (m : List ℕ)
    (refused : RequestOutcome request fs (refuses m)) (read : Rose before now → ⊥) where
  abbrev Outcomes : Decision → Type 0
  Outcomes = OutcomeIfTold (Some request) (Some fs)

  is_refused : (r : Decision) → Outcomes r → r ≡ refuses m
  is_refused r o = agree_refused r m (one_decision (Some request) fs r (refuses m) (o fs refl) refused)

  decided : (s : Status) → Decided s Outcomes before now out err → IsRefusedCall m s err
  decided s d =
      let is : d.r ≡ refuses m = is_refused d.r d.outcome in
      inr (d.status_is ∙ ap status_of is, subst (λ r. SaysIfAny (message_of r) err) is d.says)

  pub refused_ends : (s : Status) → Ends s Outcomes reads before now out err → IsRefusedCall m s err
  refused_ends status.ReadFault h = absurd (read h.count)
  refused_ends status.WriteFault h = absurd (subst has_text (is_refused h.r h.outcome) h.text)
  refused_ends status.Memory h = inl refl
  refused_ends status.Done h = decided status.Done h
  refused_ends status.Interference h = decided status.Interference h
  refused_ends status.NoProgram h = decided status.NoProgram h
  refused_ends status.Spent h = decided status.Spent h
  refused_ends status.Refused h = decided status.Refused h
  refused_ends status.Words h = decided status.Words h
  refused_ends status.NotEnded h = decided status.NotEnded h
  refused_ends status.Rejected h = decided status.Rejected h
