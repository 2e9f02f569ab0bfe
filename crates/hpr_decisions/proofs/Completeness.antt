-- Where nothing failed and each file spells a program, the outcome is the one that those programs have.
use Rattle.std.proofs.Common.{◌≡◌, ◌≤◌, ℕ, Bool, All, List, [], ◌∷◌, refl, ap, sym, ◌∙◌, subst, inl, inr, ◌⊎◌, Option, Some, Ok, codes}
use Rattle.std.specs.List.{AllByRecursion}
use Rattle.std.proofs.lemmas.List.Elements.{All-contains, All-from_recursion}
use Rattle.hpr_io.specs.Counts.{Rose}
use Rattle.hpr_io.specs.Files.{Files, bytes_of}
use Rattle.hpr_io.specs.Taken.{taken_then}
use Rattle.hpr_syntax.specs.Grammar.{untagged}
use Rattle.hpr_syntax.specs.Print.{text}
use Rattle.hpr_syntax.specs.Shape.{IsProgram}
use Rattle.hpr_syntax.specs.Tree.{Tree}
use Rattle.hpr_syntax.specs.Values.{Values}
use Rattle.hpr_graph.specs.declared.edge.Edge.{Edge}
use Rattle.hpr_graph.specs.declared.vertex.Vertex.{Vertex}
use Rattle.hpr_graph.specs.Answer.{AnswerBy, interference, printed, no_program, spent, IsAnswerBy}
use Rattle.hpr_graph.specs.Conflicts.{told_as}
use Rattle.hpr_graph.specs.Points.{IsAffected}
use Rattle.hpr_graph.specs.ProgramGraph.{graph_of}
use Rattle.hpr_graph.specs.Slices.{slice_of}
use Rattle.hpr_report.specs.AffectedText.{IsAffectedText}
use Rattle.hpr_words.specs.Request.{Request, Text, IsInRange, integrate, integrate_many, run, graph, slice, affected, trial, edit, tag, sample, verify}
use Rattle.hpr_decisions.specs.Complete.{DonePrinting, CompletesBy, IsOnlyText, IsOtherText, PrintsOther, RequestCompletes, Runs, Tries}
use Rattle.hpr_inputs.specs.Decision.{Decision, Prints, prints}
use Rattle.hpr_decisions.specs.AffectedFiles.{AffectedPoints, AffectedOutcome}
use Rattle.hpr_decisions.specs.EditFiles.{EditOutcome, OnScript, TagOutcome, edit_decision}
use Rattle.hpr_decisions.specs.GraphFile.{IsShown, Graphed, GraphOutcome}
use Rattle.hpr_engine.specs.Limit.{AreAllInLimit, AreInLimit, HasTooManyEdges}
use Rattle.hpr_engine.specs.OneSide.{IsOnlyChange}
use Rattle.hpr_engine.proofs.OneAnswer.{fit_is_printed_by, enough_by}
use Rattle.hpr_engine.proofs.OneSide.{a_alone, b_alone}
use Rattle.hpr_engine.proofs.OneSideAnswer.{only_answer}
use Rattle.hpr_report.specs.ConflictsText.{conflicts_text}
use Rattle.hpr_decisions.specs.Graphs.{OnGraph}
use Rattle.hpr_inputs.specs.Files.{OnFile, OnFiles}
use Rattle.hpr_inputs.specs.ReadsAll.{AreAllFilesOf}
use Rattle.hpr_inputs.proofs.AllFiles.{are_programs}
use Rattle.hpr_decisions.specs.Integrate.{report_by, OutcomeBy}
use Rattle.hpr_decisions.specs.IntegrateMany.{Told, told_text}
use Rattle.hpr_decisions.proofs.ManyDecided.{of_many, of_verified}
use Rattle.hpr_decisions.proofs.Unrefused.{of_all_graphs}
use Rattle.hpr_decisions.specs.Outcome.{RequestOutcome, OutcomeIfTold}
use Rattle.hpr_inputs.specs.Points.{IsNamed, IsPoint, OnPoints}
use Rattle.hpr_edit.specs.declared.command.Command.{Command}
use Rattle.hpr_edit.specs.Applied.{applied, becomes}
use Rattle.hpr_refusals.specs.Refusals.{IsFileIn, IsFileOf, IsRefusedIn, IsRefusedScript, IsScriptOf}
use Rattle.hpr_refusals.proofs.Once.{one_file, one_script_file}
use Rattle.hpr_inputs.specs.States.{OnState, states_of}
use Rattle.hpr_decisions.specs.RunFile.{Ran, RunOutcome}
use Rattle.hpr_decisions.specs.SliceFile.{IsSliceShown, Sliced, SliceOutcome}
use Rattle.hpr_decisions.specs.TrialFiles.{IsTried, Tried, TrialOutcome}
use Rattle.hpr_sample.specs.Sample as made
use Rattle.hpr_decisions.specs.Sampled.{IsSampled}
use Rattle.hpr_decisions.specs.Ends.{Change, Ends, Decided, status_of, text_of}
use Rattle.hpr_inputs.specs.declared.answer.Kind.TheVariants.{Done}
use Rattle.hpr_decisions.specs.declared.status.Status.{Status}
use Rattle.hpr_decisions.specs.declared.status.Status.TheVariants as status
use Rattle.hpr_inputs.proofs.VersionLemmas.{of_state}
use Rattle.hpr_inputs.proofs.SpelledFiles.{of_program, of_programs, of_read}
use Rattle.hpr_inputs.proofs.PointLemmas.{of_points}

done_printing : (P : List ℕ → Type 0) (old new : Option (List ℕ)) (s : Status) (d : Decision) → s ≡ status_of d → new ≡ taken_then old (text_of d) → Prints P d → DonePrinting P old new s
done_printing P old new s d is took (bytes, text, same) = (is ∙ ap status_of same, bytes, text, took ∙ ap (λ x. taken_then old (text_of x)) same)

-- a graph that hasn't too many edges is not refused
pub of_program_graph : (file : Text) (p : Tree) (next : Type 0) (r : Decision) → (HasTooManyEdges p → ⊥) → OnGraph file p next r → next
of_program_graph file p next r few (inl (many, _)) = absurd (few many)
of_program_graph file p next r few (inr (_, n)) = n

-- what is known of the decision that reports an answer of base and its variants
module _ {X : Type 0} (at : X → ℕ × Vertex × Edge) (say : List X → List ℕ) (p : Tree) (vs : List Tree) (tries : ℕ) (old new : Option (List ℕ)) (s : Status)
    (x : AnswerBy X) (answer : IsAnswerBy at p vs tries x) (is : s ≡ status_of (report_by say tries x)) (took : new ≡ taken_then old (text_of (report_by say tries x))) where
  printed_so : (m : Tree) (P : List ℕ → Type 0) → P (text m) → x ≡ printed m → DonePrinting P old new s
  printed_so m P shown e =
      (is ∙ ap (λ y. status_of (report_by say tries y)) e, text m, shown, took ∙ ap (λ y. taken_then old (text_of (report_by say tries y))) e)

  spent_status : (y : AnswerBy X) → status.Spent ≡ status_of (report_by say tries y) → y ≡ spent
  spent_status (interference cs) e = absurd cc
  spent_status (printed m) e = absurd cc
  spent_status (no_program n) e = absurd cc
  spent_status spent e = refl

  answer_completes : IsProgram p → AllByRecursion IsProgram vs → CompletesBy at say p vs tries old new s
  answer_completes is_p all = record {
    answered = (x, answer, is, took);
    first = λ free rs ps m split tried fits.
        printed_so m (λ bytes. bytes ≡ text m) refl (fit_is_printed_by at p vs is_p all tries rs split ps free tried m x fits answer);
    enough = λ free rs ps split tried few e. enough_by at p vs is_p all tries rs split ps free tried x few answer (spent_status x (sym e ∙ is));
  }

  -- where one change is the only one
  only_printed : (v : Tree) → IsProgram p → IsProgram v → 1 ≤ tries → IsOnlyChange p vs v → DonePrinting (IsOnlyText p vs v) old new s
  only_printed v is_p is_v one only =
      let (m, shown, settled) = only_answer at p v vs tries x is_p is_v only one answer in
      printed_so m (IsOnlyText p vs v) (m, settled, refl) shown

-- the same of the programs of files
module _ {X : Type 0} (at : X → ℕ × Vertex × Edge) (say : List X → List ℕ) (p : Tree) (ps : List Tree) (tries : ℕ) (old new : Option (List ℕ)) (s : Status) (fs : Files) (base : Text) (names : List Text) (d : Decision)
    (o : OutcomeBy at say fs base names tries d) (hp : IsFileOf (bytes_of fs base) p) (hps : AreAllFilesOf fs names ps) (few : AreAllInLimit (p ∷ ps))
    (is : s ≡ status_of d) (took : new ≡ taken_then old (text_of d)) where
  abbrev Answered : Type 0
  Answered = (x : AnswerBy X) × IsAnswerBy at p ps tries x × (s ≡ status_of (report_by say tries x)) × (new ≡ taken_then old (text_of (report_by say tries x)))

  answered : Answered
  answered =
      let (x, answer, shown) = of_many at say fs base names tries d p ps o hp hps few in
      (x, answer, is ∙ ap status_of shown, took ∙ ap (λ y. taken_then old (text_of y)) shown)

  of_variants : CompletesBy at say p ps tries old new s
  of_variants =
      let (x, answer, is_x, took_x) = answered in
      answer_completes at say p ps tries old new s x answer is_x took_x hp.program (are_programs fs names ps hps)

  only_of_variants : 1 ≤ tries → (v : Tree) → IsOnlyChange p ps v → DonePrinting (IsOnlyText p ps v) old new s
  only_of_variants one v only =
      let (x, answer, is_x, took_x) = answered in
      let is_v = All-contains IsProgram ps v (All-from_recursion IsProgram ps (are_programs fs names ps hps)) only.1 in
      only_printed at say p ps tries old new s x answer is_x took_x v hp.program is_v one only

-- of two variants, where one is the base
other_printed : (p q r : Tree) (old new : Option (List ℕ)) (s : Status) → ((v : Tree) → IsOnlyChange p (q ∷ r ∷ []) v → DonePrinting (IsOnlyText p (q ∷ r ∷ []) v) old new s)
    → (q ≡ p → DonePrinting (IsOtherText p q r r) old new s) × (r ≡ p → DonePrinting (IsOtherText p q r q) old new s)
other_printed p q r old new s only = (
  λ e. only r (subst (λ (t : Tree). IsOnlyChange p (t ∷ r ∷ []) r) (sym e) (b_alone p r)),
  λ e. only q (subst (λ (t : Tree). IsOnlyChange p (q ∷ t ∷ []) q) (sym e) (a_alone p q)),
)

module _ (state : Values) (p : Tree) (old new : Option (List ℕ)) (s : Status) where
  of_run : (fs : Files) (file : List ℕ) (words : List Text) (steps : ℕ) (trace : Bool) (d : Decision) → s ≡ status_of d → new ≡ taken_then old (text_of d)
      → RunOutcome fs file words steps trace d → states_of words ≡ Ok state → IsFileOf (bytes_of fs file) p → Runs p state steps trace old new s
  of_run fs file words steps trace d is took o told hp =
      let on_state : OnFile fs file (λ q. Ran q state steps trace d) d = subst (λ x. OnState x (λ t. OnFile fs file (λ q. Ran q t steps trace d) d) d) told o in
      let same = of_program fs file (λ q. Ran q state steps trace d) d p on_state hp in
      (is ∙ ap status_of same, took ∙ ap (λ x. taken_then old (text_of x)) same)

module _ (state : Values) (p q r : Tree) (old new : Option (List ℕ)) (s : Status) where
  of_trial : (fs : Files) (base a b : List ℕ) (words : List Text) (steps : ℕ) (d : Decision) → s ≡ status_of d → new ≡ taken_then old (text_of d)
      → TrialOutcome fs base a b words steps d → states_of words ≡ Ok state → IsFileOf (bytes_of fs base) p → IsFileOf (bytes_of fs a) q → IsFileOf (bytes_of fs b) r
      → AreInLimit p q r → Tries p q r state steps old new s
  of_trial fs base a b words steps d is took o told hp hq hr few =
      let on_files = of_state (states_of words) state told (λ t d. OnFiles fs base a b (λ p q r. Tried base p a q b r t steps d) d) d o in
      let on_graphs = of_programs fs base a b (λ p q r. Tried base p a q b r state steps d) d p q r on_files hp hq hr in
      (d, of_all_graphs (base ∷ a ∷ b ∷ []) (p ∷ q ∷ r ∷ []) (IsTried p q r state steps d) d few on_graphs, is, took)

module _ (old new : Option (List ℕ)) (s : Status) (fs : Files) (d : Decision) (is : s ≡ status_of d) (took : new ≡ taken_then old (text_of d)) where
  of_graph : (file : Text) (json : Bool) (p : Tree) → GraphOutcome fs file json d → IsFileOf (bytes_of fs file) p → (HasTooManyEdges p → ⊥)
      → DonePrinting (IsShown json (graph_of p)) old new s
  of_graph file json p o hp few =
      done_printing (IsShown json (graph_of p)) old new s d is took
      (of_program_graph file p (Prints (IsShown json (graph_of p)) d) d few (of_program fs file (λ q. Graphed file q json d) d p o hp))

  of_slice : (file : Text) (points : List Text) (program : Bool) (p : Tree) → SliceOutcome fs file points program d → IsFileOf (bytes_of fs file) p
      → (HasTooManyEdges p → ⊥) → All (IsNamed (graph_of p)) points → DonePrinting (IsSliceShown program p (slice_of (graph_of p) (IsPoint points))) old new s
  of_slice file points program p o hp few named =
      let Shown = IsSliceShown program p (slice_of (graph_of p) (IsPoint points)) in
      done_printing Shown old new s d is took
      (of_points (graph_of p) points (Prints Shown d) d named
      (of_program_graph file p (OnPoints (graph_of p) points (Prints Shown d) d) d few (of_program fs file (λ q. Sliced file q points program d) d p o hp)))

  of_affected : (base a : Text) (p q : Tree) → AffectedOutcome fs base a d → IsFileOf (bytes_of fs base) p → IsFileOf (bytes_of fs a) q
      → (HasTooManyEdges p → ⊥) → (HasTooManyEdges q → ⊥) → DonePrinting (IsAffectedText (IsAffected (graph_of q) (graph_of p))) old new s
  of_affected base a p q o hp hq few few_too =
      let Shown = Prints (IsAffectedText (IsAffected (graph_of q) (graph_of p))) d in
      let on_a = of_program fs base (λ p. OnFile fs a (λ q. AffectedPoints base p a q d) d) d p o hp in
      done_printing (IsAffectedText (IsAffected (graph_of q) (graph_of p))) old new s d is took
      (of_program_graph a q Shown d few_too
      (of_program_graph base p (OnGraph a q Shown d) d few (of_program fs a (λ q. AffectedPoints base p a q d) d q on_a hq)))

  of_edit : (file script : Text) (author : ℕ) (p q : Tree) (cs : List Command) → EditOutcome fs file script author d → IsFileOf (bytes_of fs file) p
      → IsScriptOf (bytes_of fs script) cs → applied p cs author ≡ becomes q → DonePrinting (λ bytes. bytes ≡ text q) old new s
  of_edit file script author p q cs o hp hs made =
      let on_script = of_program fs file (λ p. OnScript fs script (λ cs. d ≡ edit_decision script (applied p cs author)) d) d p o hp in
      let bytes = bytes_of fs script in
      let same =
      of_read (IsRefusedScript script bytes) (IsScriptOf bytes) (one_script_file script bytes) (λ cs. d ≡ edit_decision script (applied p cs author)) d cs on_script hs in
      done_printing (λ bytes. bytes ≡ text q) old new s d is took (text q, refl, same ∙ ap (edit_decision script) made)

  of_tag : (file : Text) (author : ℕ) (p : Tree) → TagOutcome fs file author d → IsFileIn (untagged author) (bytes_of fs file) p
      → DonePrinting (λ bytes. bytes ≡ text p) old new s
  of_tag file author p o hp =
      let form = untagged author in
      let bytes = bytes_of fs file in
      let same = of_read (IsRefusedIn form file bytes) (IsFileIn form bytes) (one_file form bytes file) (λ p. d ≡ prints Done (text p)) d p o hp in
      done_printing (λ bytes. bytes ≡ text p) old new s d is took (text p, refl, same)

request_completes : (request : Request) (fs : Files) (old new : Option (List ℕ)) (s : Status) (d : Decision) → s ≡ status_of d → new ≡ taken_then old (text_of d)
    → RequestOutcome request fs d → RequestCompletes request fs old new s
request_completes (integrate base a b tries) fs old new s d is took o = λ p q r hp hq hr few.
    of_variants told_as conflicts_text p (q ∷ r ∷ []) tries old new s fs base (a ∷ b ∷ []) d o hp (hq, (hr, tt)) few is took
request_completes (integrate_many base variants tries) fs old new s d is took o = λ p ps hp hps few.
    of_variants {X = Told} (λ t. t) told_text p ps tries old new s fs base variants d o hp hps few is took
request_completes (run file words steps trace) fs old new s d is took o = λ state p told hp. of_run state p old new s fs file words steps trace d is took o told hp
request_completes (graph file json) fs old new s d is took o = λ p hp few. of_graph old new s fs d is took file json p o hp few
request_completes (slice file points program) fs old new s d is took o = λ p hp few named. of_slice old new s fs d is took file points program p o hp few named
request_completes (affected base a) fs old new s d is took o = λ p q hp hq few few_too. of_affected old new s fs d is took base a p q o hp hq few few_too
request_completes (trial base a b words steps) fs old new s d is took o = λ state p q r told hp hq hr few. of_trial state p q r old new s fs base a b words steps d is took o told hp hq hr few
request_completes (edit file script author) fs old new s d is took o = λ p q cs hp hs made. of_edit old new s fs d is took file script author p q cs o hp hs made
request_completes (tag file author) fs old new s d is took o = λ p hp. of_tag old new s fs d is took file author p o hp
request_completes (sample seed parts) fs old new s d is took o = λ few.
    (let three = made.sample seed parts in
    (d, of_all_graphs (codes "base" ∷ codes "A" ∷ codes "B" ∷ []) (three.base ∷ three.a ∷ three.b ∷ []) (IsSampled seed parts three.base three.a three.b d) d few o.1, is, took))
request_completes (verify base a b m) fs old new s d is took o = λ p q r t hp hq hr ht few. (d, of_verified fs base a b m d p q r t o hp hq hr ht few, is, took)

-- where one variant is the base, the other one is printed
request_prints_other : (request : Request) (fs : Files) (old new : Option (List ℕ)) (s : Status) (d : Decision) → s ≡ status_of d → new ≡ taken_then old (text_of d)
    → IsInRange request → RequestOutcome request fs d → PrintsOther request fs old new s
request_prints_other (integrate base a b tries) fs old new s d is took range o = λ p q r hp hq hr few.
    other_printed p q r old new s (only_of_variants told_as conflicts_text p (q ∷ r ∷ []) tries old new s fs base (a ∷ b ∷ []) d o hp (hq, (hr, tt)) few is took range.0)
request_prints_other (integrate_many base variants tries) fs old new s d is took range o = λ p v ps hp hps few only.
    only_of_variants {X = Told} (λ t. t) told_text p ps tries old new s fs base variants d o hp hps few is took range.2 v only
request_prints_other _ fs old new s d is took range o = tt

module _ (request : Request) (fs : Files) (reads : List ℕ → Type 0) (before now : ℕ) (out err : Change)
    (read : Rose before now → ⊥) (written : Rose out.before out.now → ⊥) where
  abbrev Outcomes : Decision → Type 0
  Outcomes = OutcomeIfTold (Some request) (Some fs)

  -- where nothing failed, the call was decided, unless memory ran out
  pub settled : (Q : Status → Type 0) → ((s : Status) → Decided s Outcomes before now out err → Q s) → (s : Status) → Ends s Outcomes reads before now out err → (s ≡ status.Memory) ⊎ Q s
  settled Q f status.ReadFault h = absurd (read h.count)
  settled Q f status.WriteFault h = absurd (written h.count)
  settled Q f status.Memory h = inl refl
  settled Q f status.Done h = inr (f status.Done h)
  settled Q f status.Interference h = inr (f status.Interference h)
  settled Q f status.NoProgram h = inr (f status.NoProgram h)
  settled Q f status.Spent h = inr (f status.Spent h)
  settled Q f status.Refused h = inr (f status.Refused h)
  settled Q f status.Words h = inr (f status.Words h)
  settled Q f status.NotEnded h = inr (f status.NotEnded h)
  settled Q f status.Rejected h = inr (f status.Rejected h)

  pub completes : (s : Status) → Ends s Outcomes reads before now out err → (s ≡ status.Memory) ⊎ RequestCompletes request fs out.old out.new s
  completes = settled (λ s. RequestCompletes request fs out.old out.new s) (λ s d. request_completes request fs out.old out.new s d.r d.status_is d.took (d.outcome fs refl))

  pub prints_other : IsInRange request → (s : Status) → Ends s Outcomes reads before now out err → (s ≡ status.Memory) ⊎ PrintsOther request fs out.old out.new s
  prints_other range = settled (λ s. PrintsOther request fs out.old out.new s) (λ s d. request_prints_other request fs out.old out.new s d.r d.status_is d.took range (d.outcome fs refl))
