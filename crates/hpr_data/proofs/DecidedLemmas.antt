-- What comes of a request is what hpr decides on it.
use Rattle.std.proofs.Common.{◌≡◌, ◌≢◌, ℕ, Bool, true, false, List, [], ◌∷◌, ◌++◌, map, Option, Some, None, Ok, Err, Result, unwrap_or, refl, sym, ap, ◌∙◌, inl, inr, subst}
use Rattle.hpr_io.specs.Files.{Files, lookup}
use Rattle.hpr_syntax.specs.Run as means
use Rattle.hpr_syntax.specs.Tree.{Tree}
use Rattle.hpr_syntax.specs.Values.{Values}
use Rattle.hpr_graph.specs.Answer.{interference, no_program, printed, spent}
use Rattle.hpr_graph.specs.Conflicts.{AreConflictsBy, told_as}
use Rattle.hpr_syntax.specs.Print.{text}
use Rattle.hpr_graph.specs.declared.edge.Edge.{Edge}
use Rattle.hpr_graph.specs.declared.vertex.Vertex.{Vertex}
use Rattle.hpr_graph.specs.Graphs.{Graph}
use Rattle.hpr_graph.specs.InOrder.{AreEdgesOf, AreVerticesOf}
use Rattle.hpr_graph.specs.Points.{IsAffected}
use Rattle.hpr_graph.specs.ProgramGraph.{graph_of}
use Rattle.hpr_verify.specs.declared.verdict.Verdict.{Verdict}
use Rattle.hpr_verify.specs.declared.verdict.Verdict.TheVariants as verdict
use Rattle.hpr_refusals.specs.Reasons.{refusal_text}
use Rattle.hpr_refusals.specs.Refusals.{IsFileOf, IsRefused}
use Rattle.hpr_report.specs.AffectedText.{IsAffectedText, affected_text}
use Rattle.hpr_report.specs.ConflictsText.{conflicts_text}
use Rattle.hpr_report.specs.Texts.{outcome_text}
use Rattle.hpr_words.specs.Request.{Request, Text, integrate, integrate_many, run, graph, affected, verify}
use Rattle.hpr_inputs.specs.Decision.{Decision, OnRead, Prints, prints, refuses}
use Rattle.hpr_inputs.specs.Files.{OnAllFiles, OnFile}
use Rattle.hpr_inputs.specs.States.{OnState, RefusedWord, refused_word_text, states_of}
use Rattle.hpr_inputs.specs.declared.answer.Kind.TheVariants as kind
use Rattle.hpr_decisions.specs.AffectedFiles.{AffectedPoints}
use Rattle.hpr_decisions.specs.Ends as ends
use Rattle.hpr_decisions.specs.GraphFile.{Graphed, IsShown}
use Rattle.hpr_decisions.specs.Graphs.{OnAllGraphs, OnGraph, too_many_edges}
use Rattle.hpr_decisions.specs.Integrate.{IntegratedBy, IsReported, no_program_text, spent_text}
use Rattle.hpr_decisions.specs.IntegrateMany.{IntegratedMany, IsReportedOfMany, Told, conflict_of, told_text}
use Rattle.hpr_decisions.specs.RunFile.{Ran, kind_of}
use Rattle.hpr_decisions.specs.TraceText.{run_text, trace_text}
use Rattle.hpr_decisions.specs.VerifyFiles.{IsVerified, report_verdict}
use Rattle.hpr_decisions.specs.declared.status.Status.TheVariants.{ReadFault}
use Rattle.hpr_meaning.specs.Instances.{instances}
use Rattle.hpr_data.specs.Findings.{AffectedBetween, AffectsPoints, Answers, Finding, Integrated, IsGraphed, IsJudgedOf, OnAllEdges, OnAllTexts, OnBytes, OnEdges, OnText, OnWords, Verified, absent, affects, conflicting, graphed, judged, merged, no_call, over_budget, ran, refused, too_large, unmatched, word_refused}
use Rattle.hpr_data.specs.Printed.{FoundIsDecided, IsPrinted, shown_graph}
use Rattle.hpr_data.specs.Told.{status_of, verdict_status}
use Rattle.hpr_data.proofs.TwoSides.{by_side, by_sides, same_numbers}

-- a run's lines end with how it went
pub front_of : (p : Tree) (state : Values) (steps : ℕ) (trace : Bool) → (front : List ℕ) × (run_text p state steps trace ≡ front ++ outcome_text (means.run p state steps))
front_of p state steps true = (trace_text (instances p state steps), refl)
front_of p state steps false = ([], refl)

module _ (request : Request) (f : Finding) where
  -- some decision on the same finding
  abbrev IsDecided : (Decision → Type 0) → Type 0
  IsDecided P = (r : Decision) × P r × IsPrinted request f r

  -- what is printed of another finding, which is this one
  printed_too : (other : Finding) → f ≡ other → (r : Decision) → IsPrinted request other r → IsPrinted request f r
  printed_too other e r shown = subst (λ (g : Finding). IsPrinted request g r) (sym e) shown

  module _ (there : status_of f ≢ ReadFault) where
    on_bytes : (told : Option (List ℕ)) (file : Text) (next : Tree → Type 0) (decides : Tree → Decision → Type 0) → ((p : Tree) → next p → IsDecided (decides p)) → OnBytes told file next f
        → IsDecided (λ r. OnRead (IsRefused file (unwrap_or told [])) (IsFileOf (unwrap_or told [])) (λ p. decides p r) r)
    on_bytes None file next decides behind e = absurd (there (ap status_of e))
    on_bytes (Some bytes) file next decides behind (inl (why, cause, e)) =
        (refuses (refusal_text file why), inl (refusal_text file why, (why, cause, refl), refl), printed_too (refused file why) e (refuses (refusal_text file why)) refl)
    on_bytes (Some bytes) file next decides behind (inr (p, is, h)) = let (r, k, shown) = behind p h in (r, inr (p, is, k), shown)

    on_text : (files : Files) (file : Text) (next : Tree → Type 0) (decides : Tree → Decision → Type 0) → ((p : Tree) → next p → IsDecided (decides p)) → OnText files file next f
        → IsDecided (λ r. OnFile files file (λ p. decides p r) r)
    on_text files file next decides behind h = on_bytes (lookup files file) file next decides behind h

    on_all_texts : (files : Files) (names : List Text) (next : List Tree → Type 0) (decides : List Tree → Decision → Type 0) → ((ps : List Tree) → next ps → IsDecided (decides ps))
        → OnAllTexts files names next f → IsDecided (λ r. OnAllFiles files names (λ ps. decides ps r) r)
    on_all_texts files [] next decides behind h = behind [] h
    on_all_texts files (file ∷ names) next decides behind h =
        on_text files file (λ p. OnAllTexts files names (λ ps. next (p ∷ ps)) f) (λ p r. OnAllFiles files names (λ ps. decides (p ∷ ps) r) r)
        (λ p k. on_all_texts files names (λ ps. next (p ∷ ps)) (λ ps r. decides (p ∷ ps) r) (λ ps l. behind (p ∷ ps) l) k) h

  on_edges : (file : Text) (p : Tree) (next : Type 0) (decides : Decision → Type 0) → (next → IsDecided decides) → OnEdges file p next f → IsDecided (λ r. OnGraph file p (decides r) r)
  on_edges file p next decides behind (inl (many, e)) =
      (refuses (too_many_edges file), inl (many, refl), printed_too (too_large file) e (refuses (too_many_edges file)) refl)
  on_edges file p next decides behind (inr (few, h)) = let (r, k, shown) = behind h in (r, inr (few, k), shown)

  on_all_edges : (names : List Text) (ps : List Tree) (next : Type 0) (decides : Decision → Type 0) → (next → IsDecided decides) → OnAllEdges names ps next f
      → IsDecided (λ r. OnAllGraphs names ps (decides r) r)
  on_all_edges [] ps next decides behind h = behind h
  on_all_edges (file ∷ names) [] next decides behind h = behind h
  on_all_edges (file ∷ names) (p ∷ ps) next decides behind h =
      on_edges file p (OnAllEdges names ps next f) (λ r. OnAllGraphs names ps (decides r) r) (λ k. on_all_edges names ps next decides behind k) h

  on_words : (told : Result Values RefusedWord) (next : Values → Type 0) (decides : Values → Decision → Type 0) → ((state : Values) → next state → IsDecided (decides state)) → OnWords told next f
      → IsDecided (λ r. OnState told (λ state. decides state r) r)
  on_words (Ok state) next decides behind h = behind state h
  on_words (Err word) next decides behind e =
      (refuses (refused_word_text word), refl, printed_too (word_refused (refused_word_text word)) e (refuses (refused_word_text word)) refl)

  -- the points of a variant
  points_decided : (p q : Tree) → AffectsPoints p q f → IsDecided (Prints (IsAffectedText (IsAffected (graph_of q) (graph_of p))))
  points_decided p q (vs, are, e) =
      let r = prints kind.Done (affected_text vs) in
      (r, (affected_text vs, (vs, are, refl), refl), printed_too (affects vs) e r refl)

  -- a run, with its trace or without
  run_decided : (p : Tree) (state : Values) (steps : ℕ) (trace : Bool) → f ≡ ran (means.run p state steps) → IsDecided (Ran p state steps trace)
  run_decided p state steps trace e =
      let o = means.run p state steps in
      let shown = run_text p state steps trace in
      let (front, is) = front_of p state steps trace in
      (prints (kind_of o) shown, refl, printed_too (ran o) e (prints (kind_of o) shown) (front, ap (prints (kind_of o)) is))

-- a graph, as JSON or as text
is_shown : (json : Bool) (g : Graph) (vs : List Vertex) (es : List Edge) → AreVerticesOf g vs → AreEdgesOf g es → IsShown json g (shown_graph json vs es)
is_shown true g vs es are edges = (vs, es, are, edges, refl)
is_shown false g vs es are edges = (vs, es, are, edges, refl)

graph_decided : (file : Text) (json : Bool) (f : Finding) (p : Tree) → IsGraphed p f → IsDecided (graph file json) f (Prints (IsShown json (graph_of p)))
graph_decided file json f p (vs, es, are, edges, e) =
    let shown = shown_graph json vs es in
    let r = prints kind.Done shown in
    (r, (shown, is_shown json (graph_of p) vs es are edges, refl), printed_too (graph file json) f (graphed vs es) e r (shown, refl, refl))

-- a verdict on the last of four programs
abbrev pub IsVerifiedOf : List Tree → Decision → Type 0
IsVerifiedOf (p ∷ q ∷ s ∷ o ∷ []) r = IsVerified p q s o r
IsVerifiedOf _ r = ⊥

judged_decided : (base a b offered : Text) (f : Finding) (ps : List Tree) → IsJudgedOf ps f → IsDecided (verify base a b offered) f (IsVerifiedOf ps)
judged_decided base a b offered f [] h = absurd h
judged_decided base a b offered f (p ∷ []) h = absurd h
judged_decided base a b offered f (p ∷ q ∷ []) h = absurd h
judged_decided base a b offered f (p ∷ q ∷ s ∷ []) h = absurd h
judged_decided base a b offered f (p ∷ q ∷ s ∷ o ∷ []) (v, is, e) =
    let r = report_verdict v in (r, (v, is, refl), printed_too (verify base a b offered) f (judged v) e r refl)
judged_decided base a b offered f (p ∷ q ∷ s ∷ o ∷ x ∷ rest) h = absurd h

-- the answer of many variants
many_decided : (base : Text) (names : List Text) (within : ℕ) (f : Finding) (p : Tree) (ps : List Tree) (tries : ℕ) → Answers p ps tries f
    → IsDecided (integrate_many base names within) f (IsReportedOfMany p ps tries)
many_decided base names within f p ps tries (interference cs, answer, e) =
    let r = prints kind.Interference (told_text cs) in
    (r, (interference cs, answer, refl), printed_too (integrate_many base names within) f (conflicting (map conflict_of cs)) e r (told_text cs, refl, refl))
many_decided base names within f p ps tries (printed m, answer, e) =
    let r = prints kind.Done (text m) in (r, (printed m, answer, refl), printed_too (integrate_many base names within) f (merged m) e r refl)
many_decided base names within f p ps tries (no_program n, answer, e) =
    let r = prints kind.NoProgram (no_program_text n) in (r, (no_program n, answer, refl), printed_too (integrate_many base names within) f (unmatched n) e r refl)
many_decided base names within f p ps tries (spent, answer, e) =
    let r = prints kind.Spent (spent_text tries) in (r, (spent, answer, refl), printed_too (integrate_many base names within) f (over_budget tries) e r refl)

-- the answer of two variants, whose conflicts have sides
some_sides : (ts : List Told) → (ts ≡ [] → ⊥) → map by_side ts ≡ [] → ⊥
some_sides [] some e = some refl
some_sides (t ∷ ts) some e = cc

module _ (base a b : Text) (within : ℕ) (f : Finding) (p q s : Tree) (tries : ℕ) where
  abbrev Asked : Request
  Asked = integrate base a b within

  free_sides : AreConflictsBy {X = Told} (λ t. t) (graph_of p) (graph_of q ∷ graph_of s ∷ []) [] → AreConflictsBy told_as (graph_of p) (graph_of q ∷ graph_of s ∷ []) []
  free_sides are = by_sides (graph_of p) (graph_of q) (graph_of s) [] are

  two_decided : Answers p (q ∷ s ∷ []) tries f → IsDecided Asked f (IsReported p q s tries)
  two_decided (interference ts, answer, e) =
      let ds = map by_side ts in
      let r = prints kind.Interference (conflicts_text ds) in
      let sides = by_sides (graph_of p) (graph_of q) (graph_of s) ts answer.0 in (
        r,
        (interference ds, (sides, some_sides ts answer.1), refl),
        printed_too Asked f (conflicting (map conflict_of ts)) e r (conflicts_text ds, (ds, same_numbers (graph_of p) (graph_of q) (graph_of s) ts answer.0, refl), refl),
      )
  two_decided (printed m, answer, e) = let r = prints kind.Done (text m) in (r, (printed m, (free_sides answer.0, answer.1), refl), printed_too Asked f (merged m) e r refl)
  two_decided (no_program n, answer, e) =
      let r = prints kind.NoProgram (no_program_text n) in (r, (no_program n, (free_sides answer.0, answer.1), refl), printed_too Asked f (unmatched n) e r refl)
  two_decided (spent, answer, e) =
      let r = prints kind.Spent (spent_text tries) in (r, (spent, (free_sides answer.0, answer.1), refl), printed_too Asked f (over_budget tries) e r refl)

pub found_is_decided : FoundIsDecided
found_is_decided (integrate base a b tries) files f h told there =
    let asked = integrate base a b tries in
    let Found : Tree → Tree → Tree → Type 0 = λ p q s. Integrated base p (a ∷ b ∷ []) (q ∷ s ∷ []) tries f in
    let Decides : Tree → Tree → Tree → Decision → Type 0 = λ p q s r. IntegratedBy told_as conflicts_text base p (a ∷ b ∷ []) (q ∷ s ∷ []) tries r in
    on_text asked f there files base (λ p. OnText files a (λ q. OnText files b (λ s. Found p q s) f) f) (λ p r. OnFile files a (λ q. OnFile files b (λ s. Decides p q s r) r) r)
    (λ p. on_text asked f there files a (λ q. OnText files b (λ s. Found p q s) f) (λ q r. OnFile files b (λ s. Decides p q s r) r)
    (λ q. on_text asked f there files b (λ s. Found p q s) (λ s r. Decides p q s r)
    (λ s. on_all_edges asked f (base ∷ a ∷ b ∷ []) (p ∷ q ∷ s ∷ []) _ (IsReported p q s tries) (two_decided base a b tries f p q s tries)))) h
found_is_decided (integrate_many base names tries) files f h told there =
    let asked = integrate_many base names tries in
    on_text asked f there files base (λ p. OnAllTexts files names (λ ps. Integrated base p names ps tries f) f) (λ p r. OnAllFiles files names (λ ps. IntegratedMany base p names ps tries r) r)
    (λ p. on_all_texts asked f there files names (λ ps. Integrated base p names ps tries f) (λ ps r. IntegratedMany base p names ps tries r)
    (λ ps. on_all_edges asked f (base ∷ names) (p ∷ ps) _ (IsReportedOfMany p ps tries) (many_decided base names tries f p ps tries))) h
found_is_decided (run file words steps trace) files f h told there =
    let asked = run file words steps trace in
    on_words asked f (states_of words) (λ state. OnText files file (λ p. f ≡ ran (means.run p state steps)) f) (λ state r. OnFile files file (λ p. Ran p state steps trace r) r)
    (λ state. on_text asked f there files file (λ p. f ≡ ran (means.run p state steps)) (λ p r. Ran p state steps trace r) (λ p. run_decided asked f p state steps trace)) h
found_is_decided (affected base a) files f h told there =
    let asked = affected base a in
    on_text asked f there files base (λ p. OnText files a (λ q. AffectedBetween base p a q f) f) (λ p r. OnFile files a (λ q. AffectedPoints base p a q r) r)
    (λ p. on_text asked f there files a (λ q. AffectedBetween base p a q f) (λ q r. AffectedPoints base p a q r)
    (λ q. on_edges asked f base p (OnEdges a q (AffectsPoints p q f) f) (λ r. OnGraph a q (Prints (IsAffectedText (IsAffected (graph_of q) (graph_of p))) r) r)
    (on_edges asked f a q (AffectsPoints p q f) (Prints (IsAffectedText (IsAffected (graph_of q) (graph_of p)))) (points_decided asked f p q)))) h
found_is_decided (graph file json) files f h told there =
    let asked = graph file json in
    on_text asked f there files file (λ p. OnEdges file p (IsGraphed p f) f) (λ p r. Graphed file p json r)
    (λ p. on_edges asked f file p (IsGraphed p f) (Prints (IsShown json (graph_of p))) (graph_decided file json f p)) h
found_is_decided (verify base a b offered) files f h told there =
    let asked = verify base a b offered in
    let names = base ∷ a ∷ b ∷ offered ∷ [] in
    on_all_texts asked f there files names (λ ps. Verified names ps f) (λ ps r. OnAllGraphs names ps (IsVerifiedOf ps r) r)
    (λ ps. on_all_edges asked f names ps (IsJudgedOf ps f) (IsVerifiedOf ps) (judged_decided base a b offered f ps)) h
found_is_decided _ files f h told there = absurd (told (ap status_of h))

-- and of its status
verdict_printed : (v : Verdict) → verdict_status v ≡ ends.status_of (report_verdict v)
verdict_printed verdict.Same = refl
verdict_printed (verdict.Conflict c) = refl
verdict_printed (verdict.Vertex v h) = refl
verdict_printed (verdict.Edge e h) = refl

pub printed_status : (request : Request) (f : Finding) (r : Decision) → IsPrinted request f r → status_of f ≡ ends.status_of r
printed_status request no_call r shown = absurd shown
printed_status request (word_refused message) r shown = sym (ap ends.status_of shown)
printed_status request (absent file) r shown = absurd shown
printed_status request (refused file why) r shown = sym (ap ends.status_of shown)
printed_status request (too_large file) r shown = sym (ap ends.status_of shown)
printed_status request (merged m) r shown = sym (ap ends.status_of shown)
printed_status request (conflicting cs) r (lines, are, shown) = sym (ap ends.status_of shown)
printed_status request (unmatched n) r shown = sym (ap ends.status_of shown)
printed_status request (over_budget tries) r shown = sym (ap ends.status_of shown)
printed_status request (affects vs) r shown = sym (ap ends.status_of shown)
printed_status request (graphed vs es) r (lines, shows, shown) = sym (ap ends.status_of shown)
printed_status request (judged v) r shown = verdict_printed v ∙ sym (ap ends.status_of shown)
printed_status request (ran o) r (front, shown) = sym (ap ends.status_of shown)
