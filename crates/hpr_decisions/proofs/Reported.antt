-- The calls that print no program: what the status tells.
use Rattle.std.proofs.Common.{◌≡◌, ◌≤◌, ℕ, Bool, true, false, List, [], ◌∷◌, length, arith, refl, ap, ◌∙◌, subst, inl, inr, ◌⊎◌, Some, Ok, Err, Result, codes}
use Rattle.std.specs.List.{AllByRecursion}
use Rattle.hpr_terms.specs.declared.limits.TheConstants.{DEFAULT_TRIES}
use Rattle.hpr_io.specs.Counts.{Rose}
use Rattle.hpr_io.specs.Files.{Files, bytes_of}
use Rattle.hpr_io.specs.Taken.{taken_then}
use Rattle.hpr_syntax.specs.Grammar.{untagged}
use Rattle.hpr_syntax.specs.Print.{text}
use Rattle.hpr_syntax.specs.Run.{Outcome, ends, faults, more}
use Rattle.hpr_syntax.specs.Run as means
use Rattle.hpr_syntax.specs.Shape.{IsProgram}
use Rattle.hpr_syntax.specs.Tree.{Tree}
use Rattle.hpr_syntax.specs.Values.{Values}
use Rattle.hpr_graph.specs.declared.conflict.Conflict.{Conflict}
use Rattle.hpr_graph.specs.declared.conflict.Side.{Side}
use Rattle.hpr_graph.specs.declared.edge.Edge.{Edge}
use Rattle.hpr_graph.specs.declared.vertex.Vertex.{Vertex}
use Rattle.hpr_graph.specs.Conflicts.{IsConflictAt, graph_at, graph_on, number_of, told_as}
use Rattle.hpr_graph.specs.Answer as answers
use Rattle.hpr_graph.specs.Answer.{Answer, AnswerBy, interference, printed, no_program, spent, IsAnswer, IsAnswerBy, AreWithoutConflict, graphs_of, merged_of, merged_of_all}
use Rattle.hpr_graph.specs.Graphs.{Graph}
use Rattle.hpr_graph.specs.ProgramGraph.{graph_of}
use Rattle.hpr_engine.specs.Limit.{AreAllInLimit, HasTooManyEdges}
use Rattle.hpr_meaning.proofs.SidesKept.{each_kept}
use Rattle.hpr_merge.proofs.NoneListed.{TellsEach, none_told, sides_tell, triples_tell}
use Rattle.hpr_report.specs.ConflictsText.{conflicts_text}
use Rattle.hpr_words.specs.Request.{Request, Text, integrate, integrate_many, run, graph, slice, affected, trial, edit, tag, sample, verify}
use Rattle.hpr_inputs.specs.Decision.{Decision, Prints, prints, refuses}
use Rattle.hpr_decisions.specs.Ends.{Change, Ends, Decided, status_of, text_of}
use Rattle.hpr_decisions.specs.Graphs.{OnAllGraphs, OnGraph}
use Rattle.hpr_inputs.specs.Files.{OnFile, OnFiles}
use Rattle.hpr_decisions.specs.Integrate.{report, report_by, report_with, IsReportedBy, IsReportedWith, OutcomeBy, no_program_text, spent_text}
use Rattle.hpr_decisions.specs.IntegrateMany.{Told, told_text}
use Rattle.hpr_decisions.specs.Outcome.{RequestOutcome, OutcomeIfTold}
use Rattle.hpr_inputs.specs.Points.{OnPoints}
use Rattle.hpr_edit.specs.Applied as made
use Rattle.hpr_refusals.specs.Refusals.{IsFileIn, IsFileOf, IsRefusedIn, IsRefusedScript, IsScriptOf}
use Rattle.hpr_decisions.specs.EditFiles.{edit_decision}
use Rattle.hpr_decisions.specs.Reports.{AnswersFiles, ConflictOf, HasAnswer, HasConflict, HasSpentLeaves, IsInterference, SpentIn, text_of_conflicts, tries_of}
use Rattle.hpr_inputs.specs.States.{OnState, RefusedWord, states_of}
use Rattle.hpr_decisions.specs.RunFile.{kind_of}
use Rattle.hpr_sample.specs.Sample as made_by
use Rattle.hpr_sample.proofs.SamplePrograms.{is_sample}
use Rattle.hpr_decisions.specs.Sampled.{IsSampled, sample_line, sample_report}
use Rattle.hpr_decisions.specs.TrialFiles.{IsTrialBy, IsTried, ShowsIf, Tried, have_ended, steps_together}
use Rattle.hpr_inputs.specs.declared.answer.Kind.TheVariants as kind
use Rattle.hpr_decisions.specs.declared.status.Status.{Status}
use Rattle.hpr_decisions.specs.declared.status.Status.TheVariants as status
use Rattle.hpr_verify.specs.declared.verdict.Verdict.{Verdict}
use Rattle.hpr_verify.specs.declared.verdict.Verdict.TheVariants as verdict
use Rattle.hpr_verify.specs.Verdict.{IsVerdict}
use Rattle.hpr_decisions.specs.Asked.{Took}
use Rattle.hpr_decisions.specs.VerifyFiles.{IsVerified, certificate_text, report_verdict}
use Rattle.hpr_decisions.specs.VerifyKeeps.{AreFourFiles, IsRejected}
use Rattle.hpr_decisions.proofs.Unrefused as unrefused
use Rattle.hpr_decisions.proofs.Unrefused.{of_all_graphs}
use Rattle.hpr_decisions.proofs.ManyDecided.{many_decided, of_many}
use Rattle.hpr_decisions.proofs.Completeness.{settled}
use Rattle.hpr_decisions.proofs.Once.{one_interference}
use Rattle.hpr_inputs.proofs.VersionLemmas.{on_state, of_state}
use Rattle.hpr_inputs.specs.ReadsAll.{AreAllFilesOf}
use Rattle.hpr_inputs.proofs.AllFiles.{are_programs}
use Rattle.hpr_inputs.proofs.SpelledFiles.{of_programs}

-- an answer of base and two variants is reported of a trial
tried_outcome : (fs : Files) (base a b : Text) (state : Values) (steps : ℕ) (cs : List Conflict) (p : Tree) (ps : List Tree) → IsFileOf (bytes_of fs base) p → AreAllFilesOf fs (a ∷ b ∷ []) ps
    → AreAllInLimit (p ∷ ps) → IsAnswerBy told_as p ps DEFAULT_TRIES (interference cs)
    → OnFiles fs base a b (λ p q r. Tried base p a q b r state steps (prints kind.Interference (conflicts_text cs))) (prints kind.Interference (conflicts_text cs))
tried_outcome fs base a b state steps cs p [] is are few answer = absurd are
tried_outcome fs base a b state steps cs p (q ∷ []) is are few answer = absurd are.1
tried_outcome fs base a b state steps cs p (q ∷ r ∷ []) is are few answer =
    inr (p, is, inr (q, are.0, inr (r, are.1.0, inr (few.0, inr (few.1.0, inr (few.1.1, (interference cs, answer, refl)))))))
tried_outcome fs base a b state steps cs p (q ∷ r ∷ s ∷ ps) is are few answer = absurd are.1.1

-- an answer of the files is reported
answer_outcome : (request : Request) (fs : Files) (cs : List (ConflictOf request)) → HasAnswer request fs (interference cs)
    → RequestOutcome request fs (prints kind.Interference (text_of_conflicts request cs))
answer_outcome (integrate base a b tries) fs cs h =
    many_decided told_as conflicts_text fs base (a ∷ b ∷ []) tries (prints kind.Interference (conflicts_text cs)) h.p h.ps (interference cs) h.base_is h.variants_are h.within h.answer refl
answer_outcome (integrate_many base variants tries) fs cs h =
    many_decided {X = Told} (λ t. t) told_text fs base variants tries (prints kind.Interference (told_text cs)) h.p h.ps (interference cs) h.base_is h.variants_are h.within h.answer refl
answer_outcome (trial base a b words steps) fs cs (state, told, h) =
    let d = prints kind.Interference (conflicts_text cs) in
    on_state (states_of words) state told (λ t d. OnFiles fs base a b (λ p q r. Tried base p a q b r t steps d) d) d
    (tried_outcome fs base a b state steps cs h.p h.ps h.base_is h.variants_are h.within h.answer)
answer_outcome (sample seed parts) fs cs h =
    (h.size, inr (h.within.0, inr (h.within.1.0, inr (h.within.1.1, (interference cs, h.answer, refl)))))
answer_outcome _ fs cs h = absurd h

-- an answer of a request is reported so
abbrev report_of : (request : Request) → AnswerBy (ConflictOf request) → Decision
report_of request = report_by (text_of_conflicts request) (tries_of request)

-- the statuses that only an answer without a program has
abbrev pub IsReport : Status → Type 0
IsReport status.Interference = Unit {0}
IsReport status.NoProgram = Unit {0}
IsReport status.Spent = Unit {0}
IsReport _ = ⊥

-- and those that neither a command which is done has nor a run
abbrev IsTold : Status → Type 0
IsTold status.Rejected = Unit {0}
IsTold s = IsReport s

-- a decision with such a status reports an answer, or that an offered program is rejected
module _ (fs : Files) (d : Decision) (is : IsTold (status_of d)) where
  no_refusal : (message : List ℕ) → d ≡ refuses message → ⊥
  no_refusal message e = subst (λ (r : Decision). IsTold (status_of r)) e is

  not_done : (P : List ℕ → Type 0) → Prints P d → ⊥
  not_done P (bytes, shown, e) = subst (λ (r : Decision). IsTold (status_of r)) e is

  not_run : (o : Outcome) (text : List ℕ) → d ≡ prints (kind_of o) text → ⊥
  not_run (ends finals steps) text e = subst (λ (r : Decision). IsTold (status_of r)) e is
  not_run (faults part fault steps) text e = subst (λ (r : Decision). IsTold (status_of r)) e is
  not_run (more steps) text e = subst (λ (r : Decision). IsTold (status_of r)) e is

  not_edited : (script : Text) (x : made.Applied) → d ≡ edit_decision script x → ⊥
  not_edited script (made.becomes p) e = subst (λ (r : Decision). IsTold (status_of r)) e is
  not_edited script (made.refused k why) e = no_refusal _ e

  past_file : (file : List ℕ) (next : Tree → Type 0) → OnFile fs file next d → (p : Tree) × IsFileOf (bytes_of fs file) p × next p
  past_file = unrefused.past_file fs d no_refusal

  past_graph : (file : Text) (p : Tree) (next : Type 0) → OnGraph file p next d → (HasTooManyEdges p → ⊥) × next
  past_graph = unrefused.past_graph fs d no_refusal

  past_points : (g : Graph) (points : List Text) (next : Type 0) → OnPoints g points next d → next
  past_points g points next (inl (word, first, e)) = absurd (no_refusal _ e)
  past_points g points next (inr (all, h)) = h

  not_shown : (all : Bool) (o o1 o2 om : Outcome) → ShowsIf all o o1 o2 om d → ⊥
  not_shown true o o1 o2 om (text, shown, e) = subst (λ (r : Decision). IsTold (status_of r)) e is
  not_shown false o o1 o2 om e = subst (λ (r : Decision). IsTold (status_of r)) e is

  past_state : (told : Result Values RefusedWord) (next : Values → Type 0) → OnState told next d → (state : Values) × (told ≡ Ok state) × next state
  past_state (Ok state) next h = (state, refl, h)
  past_state (Err refused) next h = absurd (no_refusal _ h)

  past_trial : (p q r : Tree) (state : Values) (steps : ℕ) (x : Answer) → IsTrialBy p q r state steps x d → d ≡ report DEFAULT_TRIES x
  past_trial p q r state steps (interference cs) h = h
  past_trial p q r state steps (printed m) h =
      let o = means.run p state steps in
      let o1 = means.run q state steps in
      let o2 = means.run r state steps in
      absurd (not_shown (have_ended o o1 o2) o o1 o2 (means.run m state (steps_together o o1 o2)) h)
  past_trial p q r state steps (no_program n) h = h
  past_trial p q r state steps spent h = h

  past_sample : (seed parts : ℕ) (p q r : Tree) (x : Answer) → d ≡ sample_report seed parts p q r x → d ≡ report DEFAULT_TRIES x
  past_sample seed parts p q r (interference cs) h = h
  past_sample seed parts p q r (printed m) h = absurd (subst (λ (r : Decision). IsTold (status_of r)) h is)
  past_sample seed parts p q r (no_program n) h = h
  past_sample seed parts p q r spent h = h

  past_files : (base a b : List ℕ) (next : Tree → Tree → Tree → Type 0) → OnFiles fs base a b next d
      → (p q r : Tree) × IsFileOf (bytes_of fs base) p × IsFileOf (bytes_of fs a) q × IsFileOf (bytes_of fs b) r × next p q r
  past_files = unrefused.past_files fs d no_refusal

  past_all_graphs : (names : List Text) (ps : List Tree) (next : Type 0) → length ps ≤ length names → OnAllGraphs names ps next d → AreAllInLimit ps × next
  past_all_graphs = unrefused.past_all_graphs fs d no_refusal

  abbrev Reports : Request → Type 0
  Reports request = (x : AnswerBy (ConflictOf request)) × HasAnswer request fs x × (d ≡ report_of request x)

  abbrev Rejects : Request → Type 0
  Rejects request = (bytes : List ℕ) × IsRejected request fs bytes × (d ≡ prints kind.Rejected bytes)

  of_verdict : (base a b m : Text) (p q r o : Tree) → AreFourFiles (bytes_of fs base) (bytes_of fs a) (bytes_of fs b) (bytes_of fs m) p q r o → (v : Verdict) → IsVerdict p q r o v
      → d ≡ report_verdict v → Rejects (verify base a b m)
  of_verdict base a b m p q r o files verdict.Same judged shown = absurd (subst (λ (r : Decision). IsTold (status_of r)) shown is)
  of_verdict base a b m p q r o files (verdict.Conflict c) judged shown =
      (certificate_text (verdict.Conflict c), (verdict.Conflict c, record { p = p; q = q; r = r; o = o; files = files; verdict_is = judged; other = λ e. cc }, refl), shown)
  of_verdict base a b m p q r o files (verdict.Vertex v h) judged shown =
      (certificate_text (verdict.Vertex v h), (verdict.Vertex v h, record { p = p; q = q; r = r; o = o; files = files; verdict_is = judged; other = λ e. cc }, refl), shown)
  of_verdict base a b m p q r o files (verdict.Edge e h) judged shown =
      (certificate_text (verdict.Edge e h), (verdict.Edge e h, record { p = p; q = q; r = r; o = o; files = files; verdict_is = judged; other = λ e. cc }, refl), shown)

  answered_by : {X : Type 0} (at : X → ℕ × Vertex × Edge) (say : List X → List ℕ) (base : Text) (names : List Text) (tries : ℕ) → OutcomeBy at say fs base names tries d
      → (x : AnswerBy X) × AnswersFiles at fs base names tries x × (d ≡ report_by say tries x)
  answered_by at say base names tries o =
      let (p, ps, base_is, variants_are, few, (x, answer, shown)) = unrefused.past_many fs d no_refusal base names (λ p ps. IsReportedBy at say p ps tries d) o in
      (x, record { p = p; ps = ps; base_is = base_is; variants_are = variants_are; within = few; answer = answer }, shown)

  reports : (request : Request) → RequestOutcome request fs d → Reports request ⊎ Rejects request
  reports (integrate base a b tries) o = inl (answered_by told_as conflicts_text base (a ∷ b ∷ []) tries o)
  reports (integrate_many base variants tries) o = inl (answered_by {X = Told} (λ t. t) told_text base variants tries o)
  reports (run file words steps trace) o =
      let (state, told, on_file) = past_state (states_of words) _ o in
      let (p, file_is, ran) = past_file file _ on_file in
      absurd (not_run (means.run p state steps) _ ran)
  reports (graph file json) o =
      let (p, file_is, on_graph) = past_file file _ o in
      absurd (not_done _ (past_graph file p _ on_graph).1)
  reports (slice file points program) o =
      let (p, file_is, on_graph) = past_file file _ o in
      absurd (not_done _ (past_points (graph_of p) points _ (past_graph file p _ on_graph).1))
  reports (affected base a) o =
      let (p, base_is, on_a) = past_file base _ o in
      let (q, a_is, on_graphs) = past_file a _ on_a in
      absurd (not_done _ (past_graph a q _ (past_graph base p _ on_graphs).1).1)
  reports (trial base a b words steps) o =
      let (state, told, on_files) = past_state (states_of words) _ o in
      let (p, q, r, base_is, a_is, b_is, on_graphs) = past_files base a b _ on_files in
      let (few, (x, answer, by)) = past_all_graphs (base ∷ a ∷ b ∷ []) (p ∷ q ∷ r ∷ []) (IsTried p q r state steps d) (omega arith) on_graphs in
      inl (x, (state, told, record { p = p; ps = q ∷ r ∷ []; base_is = base_is; variants_are = (a_is, (b_is, tt)); within = few; answer = answer }), past_trial p q r state steps x by)
  reports (edit file script author) o =
      let (p, file_is, on_script) = past_file file _ o in
      let (cs, script_is, shown) = unrefused.past_read fs d no_refusal (IsRefusedScript script (bytes_of fs script)) (IsScriptOf (bytes_of fs script)) (λ cs. d ≡ edit_decision script (made.applied p cs author)) on_script in
      absurd (not_edited script (made.applied p cs author) shown)
  reports (tag file author) o =
      let bytes = bytes_of fs file in
      let (p, file_is, shown) = unrefused.past_read fs d no_refusal (IsRefusedIn (untagged author) file bytes) (IsFileIn (untagged author) bytes) (λ p. d ≡ prints kind.Done (text p)) o in
      absurd (not_done (λ bytes. bytes ≡ text p) (text p, refl, shown))
  reports (sample seed parts) (size, on_graphs) =
      let three = made_by.sample seed parts in
      let (few, (x, answer, shown)) =
      past_all_graphs (codes "base" ∷ codes "A" ∷ codes "B" ∷ []) (three.base ∷ three.a ∷ three.b ∷ []) (IsSampled seed parts three.base three.a three.b d) (omega arith) on_graphs in
      inl (x, record { size = size; within = few; answer = answer }, past_sample seed parts three.base three.a three.b x shown)
  reports (verify base a b m) o =
      let (p, q, r, base_is, a_is, b_is, on_m) = past_files base a b _ o in
      let (t, m_is, on_graphs) = past_file m _ on_m in
      let (few, (v, judged, shown)) =
      past_all_graphs (base ∷ a ∷ b ∷ m ∷ []) (p ∷ q ∷ r ∷ t ∷ []) (IsVerified p q r t d) (omega arith) on_graphs in
      inr (of_verdict base a b m p q r t (record { base_is = base_is; a_is = a_is; b_is = b_is; m_is = m_is }) v judged shown)

-- which of the two it is
answered_of : (request : Request) (fs : Files) (d : Decision) (is : IsTold (status_of d)) → IsReport (status_of d) → Reports fs d is request ⊎ Rejects fs d is request → Reports fs d is request
answered_of request fs d is report (inl h) = h
answered_of request fs d is report (inr (bytes, rejected, e)) = absurd (subst (λ (r : Decision). IsReport (status_of r)) e report)

never_rejected : {X : Type 0} (say : List X → List ℕ) (tries : ℕ) (x : AnswerBy X) → status.Rejected ≡ status_of (report_by say tries x) → ⊥
never_rejected say tries (interference cs) e = cc
never_rejected say tries (printed m) e = cc
never_rejected say tries (no_program n) e = cc
never_rejected say tries spent e = cc

rejected_of : (request : Request) (fs : Files) (d : Decision) (is : IsTold (status_of d)) → status.Rejected ≡ status_of d → Reports fs d is request ⊎ Rejects fs d is request → Rejects fs d is request
rejected_of request fs d is e (inl (x, has, shown)) = absurd (never_rejected (text_of_conflicts request) (tries_of request) x (e ∙ ap status_of shown))
rejected_of request fs d is e (inr h) = h

-- which answer it is, its status tells
module _ {X : Type 0} (say : List X → List ℕ) (tries : ℕ) where
  interference_of : (x : AnswerBy X) → status.Interference ≡ status_of (report_by say tries x) → (cs : List X) × (x ≡ interference cs)
  interference_of (interference cs) e = (cs, refl)
  interference_of (printed m) e = absurd cc
  interference_of (no_program n) e = absurd cc
  interference_of spent e = absurd cc

  no_program_of : (x : AnswerBy X) → status.NoProgram ≡ status_of (report_by say tries x) → (n : ℕ) × (x ≡ no_program n)
  no_program_of (interference cs) e = absurd cc
  no_program_of (printed m) e = absurd cc
  no_program_of (no_program n) e = (n, refl)
  no_program_of spent e = absurd cc

  spent_of : (x : AnswerBy X) → status.Spent ≡ status_of (report_by say tries x) → x ≡ spent
  spent_of (interference cs) e = absurd cc
  spent_of (printed m) e = absurd cc
  spent_of (no_program n) e = absurd cc
  spent_of spent e = refl

module _ (request : Request) (fs : Files) (d : Decision) (o : RequestOutcome request fs d) where
  abbrev Conflicting : Type 0
  Conflicting = ConflictOf request

  abbrev Say : List Conflicting → List ℕ
  Say = text_of_conflicts request

  shows_interference : status.Interference ≡ status_of d → (cs : List Conflicting) × HasAnswer request fs (interference cs) × (d ≡ prints kind.Interference (Say cs))
  shows_interference is =
      let (x, has, shown) = answered_of request fs d (subst IsTold is tt) (subst IsReport is tt) (reports fs d (subst IsTold is tt) request o) in
      let (cs, e) = interference_of Say (tries_of request) x (is ∙ ap status_of shown) in
      (cs, subst (λ (y : AnswerBy Conflicting). HasAnswer request fs y) e has, shown ∙ ap (report_of request) e)

  shows_no_program : status.NoProgram ≡ status_of d → (n : ℕ) × HasAnswer request fs (no_program n) × (d ≡ prints kind.NoProgram (no_program_text n))
  shows_no_program is =
      let (x, has, shown) = answered_of request fs d (subst IsTold is tt) (subst IsReport is tt) (reports fs d (subst IsTold is tt) request o) in
      let (n, e) = no_program_of Say (tries_of request) x (is ∙ ap status_of shown) in
      (n, subst (λ (y : AnswerBy Conflicting). HasAnswer request fs y) e has, shown ∙ ap (report_of request) e)

  shows_spent : status.Spent ≡ status_of d → HasAnswer request fs spent × (d ≡ prints kind.Spent (spent_text (tries_of request)))
  shows_spent is =
      let (x, has, shown) = answered_of request fs d (subst IsTold is tt) (subst IsReport is tt) (reports fs d (subst IsTold is tt) request o) in
      let e = spent_of Say (tries_of request) x (is ∙ ap status_of shown) in
      (subst (λ (y : AnswerBy Conflicting). HasAnswer request fs y) e has, shown ∙ ap (report_of request) e)

  shows_rejected : status.Rejected ≡ status_of d → (bytes : List ℕ) × IsRejected request fs bytes × (d ≡ prints kind.Rejected bytes)
  shows_rejected is = rejected_of request fs d (subst IsTold is tt) is (reports fs d (subst IsTold is tt) request o)

-- an answer that the budget is spent says so of the leaves too
leaves_by : {X : Type 0} (at : X → ℕ × Vertex × Edge) (base : Tree) (vs : List Tree) (tries : ℕ) → IsAnswerBy at base vs tries spent → answers.HasSpentLeavesOf base vs tries
leaves_by at base vs tries (free, (rs, split, (rank, is, (ps, are, longer, none, leaves)))) = (rs, split, (rank, is, leaves))

leaves_in : {X : Type 0} (at : X → ℕ × Vertex × Edge) (fs : Files) (base : Text) (names : List Text) (tries : ℕ) → AnswersFiles at fs base names tries spent → SpentIn fs base names tries
leaves_in at fs base names tries h =
    record { p = h.p; ps = h.ps; base_is = h.base_is; variants_are = h.variants_are; spent = leaves_by at h.p h.ps tries h.answer }

spent_leaves : (request : Request) (fs : Files) → HasAnswer request fs spent → HasSpentLeaves request fs
spent_leaves (integrate base a b tries) fs h = leaves_in told_as fs base (a ∷ b ∷ []) tries h
spent_leaves (integrate_many base variants tries) fs h = leaves_in {X = Told} (λ t. t) fs base variants tries h
spent_leaves (trial base a b words steps) fs (state, told, h) = leaves_in told_as fs base (a ∷ b ∷ []) DEFAULT_TRIES h
spent_leaves (sample seed parts) fs h =
    let three = made_by.sample seed parts in leaves_by told_as three.base (three.a ∷ three.b ∷ []) DEFAULT_TRIES h.answer
spent_leaves _ fs h = absurd h

-- where a point is a conflict, the answer is a list of conflicts
module _ {X : Type 0} (at : X → ℕ × Vertex × Edge) (p : Tree) (ps : List Tree) (tells : TellsEach at (length (graphs_of ps))) (is_p : IsProgram p) (all : AllByRecursion IsProgram ps) (number : ℕ) (point : Vertex)
    (conflict : IsConflictAt (merged_of_all p ps) (graph_at (graphs_of ps) number) (graph_of p) point) where
  not_free : AreWithoutConflict at p ps → ⊥
  not_free free = conflict.1 (each_kept p ps is_p all (none_told at (graph_of p) (graphs_of ps) tells free) number point conflict.0)

  conflicting : (tries : ℕ) (x : AnswerBy X) → IsAnswerBy at p ps tries x → (cs : List X) × (x ≡ interference cs)
  conflicting tries (interference cs) answer = (cs, refl)
  conflicting tries (printed m) answer = absurd (not_free answer.0)
  conflicting tries (no_program n) answer = absurd (not_free answer.0)
  conflicting tries spent answer = absurd (not_free answer.0)

  reported_conflicting : (show : Tree → List ℕ) (say : List X → List ℕ) (tries : ℕ) (d : Decision) → IsReportedWith show at say p ps tries d → status_of d ≡ status.Interference
  reported_conflicting show say tries d (x, answer, shown) =
      let (cs, e) = conflicting tries x answer in
      ap status_of shown ∙ ap (λ y. status_of (report_with show say tries y)) e

-- so it is of two variants in a trial
tried_conflicting : (p q r : Tree) → IsProgram p → IsProgram q → IsProgram r → (side : Side) (point : Vertex) → IsConflictAt (merged_of p q r) (graph_on side (graph_of q) (graph_of r)) (graph_of p) point
    → (state : Values) (steps : ℕ) (d : Decision) → IsTried p q r state steps d → status_of d ≡ status.Interference
tried_conflicting p q r is_p is_q is_r side point conflict state steps d (x, answer, by) =
    let (cs, e) = conflicting told_as p (q ∷ r ∷ []) sides_tell is_p (is_q, (is_r, tt)) (number_of side) point conflict DEFAULT_TRIES x answer in
    let same : d ≡ report DEFAULT_TRIES (interference cs) = subst (λ (y : Answer). IsTrialBy p q r state steps y d) e by in
    ap status_of same

conflict_outcome : (request : Request) (fs : Files) (d : Decision) → HasConflict request fs → RequestOutcome request fs d → status_of d ≡ status.Interference
conflict_outcome (integrate base a b tries) fs d h o =
    reported_conflicting told_as h.p (h.q ∷ h.r ∷ []) sides_tell h.base_is.program (h.a_is.program, (h.b_is.program, tt)) (number_of h.side) h.point h.conflict text conflicts_text tries d
    (of_many told_as conflicts_text fs base (a ∷ b ∷ []) tries d h.p (h.q ∷ h.r ∷ []) o h.base_is (h.a_is, (h.b_is, tt)) h.within)
conflict_outcome (integrate_many base variants tries) fs d h o =
    reported_conflicting {X = Told} (λ t. t) h.p h.ps (triples_tell (length (graphs_of h.ps))) h.base_is.program (are_programs fs variants h.ps h.variants_are) h.number h.point h.conflict text told_text tries d
    (of_many {X = Told} (λ t. t) told_text fs base variants tries d h.p h.ps o h.base_is h.variants_are h.within)
conflict_outcome (trial base a b words steps) fs d (state, told, h) o =
    let on_files = of_state (states_of words) state told (λ t d. OnFiles fs base a b (λ p q r. Tried base p a q b r t steps d) d) d o in
    let on_graphs = of_programs fs base a b (λ p q r. Tried base p a q b r state steps d) d h.p h.q h.r on_files h.base_is h.a_is h.b_is in
    tried_conflicting h.p h.q h.r h.base_is.program h.a_is.program h.b_is.program h.side h.point h.conflict state steps d
    (of_all_graphs (base ∷ a ∷ b ∷ []) (h.p ∷ h.q ∷ h.r ∷ []) (IsTried h.p h.q h.r state steps d) d h.within on_graphs)
conflict_outcome (sample seed parts) fs d h o =
    let three = made_by.sample seed parts in
    let is = is_sample seed parts h.size in
    reported_conflicting told_as three.base (three.a ∷ three.b ∷ []) sides_tell is.base (is.a, (is.b, tt)) (number_of h.side) h.point h.conflict (sample_line seed parts three.base three.a three.b)
    conflicts_text DEFAULT_TRIES d
    (of_all_graphs (codes "base" ∷ codes "A" ∷ codes "B" ∷ []) (three.base ∷ three.a ∷ three.b ∷ []) (IsSampled seed parts three.base three.a three.b d) d h.within o.1)
conflict_outcome _ fs d h o = absurd h

module _ (request : Request) (fs : Files) (reads : List ℕ → Type 0) (before now : ℕ) (out err : Change) where
  abbrev Outcomes : Decision → Type 0
  Outcomes = OutcomeIfTold (Some request) (Some fs)

  -- the status Interference has its cause, and comes with the whole list
  pub interference_ends : (s : Status) → s ≡ status.Interference → Ends s Outcomes reads before now out err
      → (cs : List (ConflictOf request)) × HasAnswer request fs (interference cs) × IsInterference request cs out.old out.new s
  interference_ends s e h =
      let d : Decided status.Interference Outcomes before now out err = subst (λ x. Ends x Outcomes reads before now out err) e h in
      let (cs, has, shown) = shows_interference request fs d.r (d.outcome fs refl) d.status_is in
      (cs, has, (e, d.took ∙ ap (λ r. taken_then out.old (text_of r)) shown))

  pub no_program_ends : (s : Status) → s ≡ status.NoProgram → Ends s Outcomes reads before now out err
      → (n : ℕ) × HasAnswer request fs (no_program n) × (out.new ≡ taken_then out.old (no_program_text n))
  no_program_ends s e h =
      let d : Decided status.NoProgram Outcomes before now out err = subst (λ x. Ends x Outcomes reads before now out err) e h in
      let (n, has, shown) = shows_no_program request fs d.r (d.outcome fs refl) d.status_is in
      (n, has, d.took ∙ ap (λ r. taken_then out.old (text_of r)) shown)

  pub spent_ends : (s : Status) → s ≡ status.Spent → Ends s Outcomes reads before now out err
      → HasAnswer request fs spent × (out.new ≡ taken_then out.old (spent_text (tries_of request)))
  spent_ends s e h =
      let d : Decided status.Spent Outcomes before now out err = subst (λ x. Ends x Outcomes reads before now out err) e h in
      let (has, shown) = shows_spent request fs d.r (d.outcome fs refl) d.status_is in
      (has, d.took ∙ ap (λ r. taken_then out.old (text_of r)) shown)

  -- the status Rejected comes with the text of a verdict
  pub rejected_ends : (s : Status) → s ≡ status.Rejected → Ends s Outcomes reads before now out err → Took out.old out.new (IsRejected request fs)
  rejected_ends s e h =
      let d : Decided status.Rejected Outcomes before now out err = subst (λ x. Ends x Outcomes reads before now out err) e h in
      let (bytes, is, shown) = shows_rejected request fs d.r (d.outcome fs refl) d.status_is in
      (bytes, d.took ∙ ap (λ r. taken_then out.old (text_of r)) shown, is)

  -- and then the leaves are spent too
  pub leaves_ends : (s : Status) → s ≡ status.Spent → Ends s Outcomes reads before now out err → HasSpentLeaves request fs
  leaves_ends s e h = spent_leaves request fs (spent_ends s e h).0

  -- and comes wherever it has
  pub interferes_ends : (cs : List (ConflictOf request)) → HasAnswer request fs (interference cs) → (Rose before now → ⊥) → (Rose out.before out.now → ⊥) → (s : Status)
      → Ends s Outcomes reads before now out err → (s ≡ status.Memory) ⊎ IsInterference request cs out.old out.new s
  interferes_ends cs has read written =
      let text = text_of_conflicts request cs in
      settled request fs reads before now out err read written (λ s. IsInterference request cs out.old out.new s)
      (λ s d. let same : d.r ≡ prints kind.Interference text = one_interference request fs d.r text (d.outcome fs refl) (answer_outcome request fs cs has) in
      (d.status_is ∙ ap status_of same, d.took ∙ ap (λ r. taken_then out.old (text_of r)) same))

  -- so it does wherever a point is a conflict
  pub conflict_ends : HasConflict request fs → (Rose before now → ⊥) → (Rose out.before out.now → ⊥) → (s : Status) → Ends s Outcomes reads before now out err
      → (s ≡ status.Memory) ⊎ (s ≡ status.Interference)
  conflict_ends has read written =
      settled request fs reads before now out err read written (λ s. s ≡ status.Interference)
      (λ s d. d.status_is ∙ conflict_outcome request fs d.r has (d.outcome fs refl))
