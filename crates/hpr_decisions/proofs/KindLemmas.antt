-- Which kinds the answers to a request have, whatever the shelf tells.
use Rattle.std.proofs.Common.{◌≡◌, ℕ, Bool, true, false, List, [], ◌∷◌, inl, inr, subst, sym, Ok, Err, Result, codes}
use Rattle.hpr_terms.specs.declared.limits.TheConstants.{DEFAULT_TRIES}
use Rattle.hpr_syntax.specs.Print.{text}
use Rattle.hpr_syntax.specs.Run as means
use Rattle.hpr_syntax.specs.Run.{Outcome, ends, faults, more}
use Rattle.hpr_syntax.specs.Tree.{Tree}
use Rattle.hpr_syntax.specs.Values.{Values}
use Rattle.hpr_edit.specs.Applied.{Applied, becomes, refused}
use Rattle.hpr_graph.specs.Answer.{Answer, AnswerBy, interference, printed, no_program, spent}
use Rattle.hpr_graph.specs.Graphs.{Graph}
use Rattle.hpr_graph.specs.Points.{IsAffected}
use Rattle.hpr_graph.specs.ProgramGraph.{graph_of}
use Rattle.hpr_graph.specs.Slices.{slice_of}
use Rattle.hpr_report.specs.AffectedText.{IsAffectedText}
use Rattle.hpr_report.specs.ConflictsText.{conflicts_text}
use Rattle.hpr_sample.specs.Sample as made
use Rattle.hpr_verify.specs.declared.verdict.Verdict.{Verdict}
use Rattle.hpr_verify.specs.declared.verdict.Verdict.TheVariants as verdict
use Rattle.hpr_words.specs.Request.{Request, Text, integrate, integrate_many, run, graph, slice, affected, trial, edit, sample, verify}
use Rattle.hpr_inputs.specs.Answer.{Merges}
use Rattle.hpr_inputs.specs.Decision.{Decision, Prints, prints, refuses, usage}
use Rattle.hpr_inputs.specs.Points.{IsPoint, OnPoints}
use Rattle.hpr_inputs.specs.declared.answer.Kind.TheVariants.{Done}
use Rattle.hpr_inputs.specs.declared.answer.Report.{Report}
use Rattle.hpr_inputs.specs.declared.answer.Stop.{Stop}
use Rattle.hpr_decisions.specs.AffectedFiles.{AffectedPoints}
use Rattle.hpr_decisions.specs.Answered.{AnswersInKind}
use Rattle.hpr_decisions.specs.EditFiles.{edit_decision}
use Rattle.hpr_decisions.specs.GraphFile.{Graphed, IsShown}
use Rattle.hpr_decisions.specs.Graphs.{OnAllGraphs, OnGraph}
use Rattle.hpr_decisions.specs.Integrate.{Integrated, IsReported, report_with}
use Rattle.hpr_decisions.specs.IntegrateMany.{IntegratedMany, IsReportedOfMany, told_text}
use Rattle.hpr_decisions.specs.RunFile.{Ran, kind_of}
use Rattle.hpr_decisions.specs.Sampled.{IsSampled, SampleOutcome, sample_line}
use Rattle.hpr_decisions.specs.SliceFile.{IsSliceShown, Sliced}
use Rattle.hpr_decisions.specs.Statuses.{DoesIntegrate, DoesRun, DoesVerify, IsKindOf}
use Rattle.hpr_decisions.specs.TrialFiles.{IsTrialBy, IsTried, ShowsIf, Tried, have_ended, steps_together}
use Rattle.hpr_decisions.specs.VerifyFiles.{IsVerified, report_verdict}

-- the decision is a refusal, or of a kind of the request
abbrev pub Suits : Request → Decision → Type 0
Suits request (prints k text) = IsKindOf request k
Suits request (refuses message) = Unit {0}
Suits request usage = ⊥

module _ (request : Request) where
  -- a result that is so decided
  pub in_kind : (P : Decision → Type 0) → ((d : Decision) → P d → Suits request d) → (result : Result Report Stop) → Merges P result → AnswersInKind request result
  in_kind P suits (Ok report) h = suits _ h
  in_kind P suits (Err s) h = tt

  module _ (d : Decision) where
    at_decision : (e : Decision) → d ≡ e → Suits request e → Suits request d
    at_decision e is h = subst (Suits request) (sym is) h

    done : (P : List ℕ → Type 0) → Prints P d → Suits request d
    done P (text, _, is) = at_decision (prints Done text) is tt

    ran : DoesRun request → (o : Outcome) (text : List ℕ) → d ≡ prints (kind_of o) text → Suits request d
    ran does (ends finals steps) text is = at_decision _ is tt
    ran does (faults tag fault steps) text is = at_decision _ is does
    ran does (more steps) text is = at_decision _ is does

    reported : {X : Type 0} → DoesIntegrate request → (show : Tree → List ℕ) (say : List X → List ℕ) (tries : ℕ) (x : AnswerBy X) → d ≡ report_with show say tries x → Suits request d
    reported does show say tries (interference cs) is = at_decision _ is does
    reported does show say tries (printed m) is = at_decision _ is tt
    reported does show say tries (no_program n) is = at_decision _ is does
    reported does show say tries spent is = at_decision _ is does

    shown : DoesRun request → (have : Bool) (o o1 o2 om : Outcome) → ShowsIf have o o1 o2 om d → Suits request d
    shown does true o o1 o2 om h = done _ h
    shown does false o o1 o2 om is = at_decision _ is does

    judged : DoesVerify request → (v : Verdict) → d ≡ report_verdict v → Suits request d
    judged does verdict.Same is = at_decision _ is tt
    judged does (verdict.Conflict c) is = at_decision _ is does
    judged does (verdict.Vertex v h) is = at_decision _ is does
    judged does (verdict.Edge e h) is = at_decision _ is does

    -- a refusal is of each request
    on_graph : (file : Text) (p : Tree) (next : Type 0) → (next → Suits request d) → OnGraph file p next d → Suits request d
    on_graph file p next suits (inl (many, is)) = at_decision _ is tt
    on_graph file p next suits (inr (few, h)) = suits h

    pub on_all_graphs : (names : List Text) (ps : List Tree) (next : Type 0) → (next → Suits request d) → OnAllGraphs names ps next d → Suits request d
    on_all_graphs [] ps next suits h = suits h
    on_all_graphs (name ∷ names) [] next suits h = suits h
    on_all_graphs (name ∷ names) (p ∷ ps) next suits h = on_graph name p (OnAllGraphs names ps next d) (on_all_graphs names ps next suits) h

    on_points : (g : Graph) (points : List Text) (next : Type 0) → (next → Suits request d) → OnPoints g points next d → Suits request d
    on_points g points next suits (inl (word, first, is)) = at_decision _ is tt
    on_points g points next suits (inr (all, h)) = suits h

pub graph_suits : (file : Text) (p : Tree) (json : Bool) (d : Decision) → Graphed file p json d → Suits (graph file json) d
graph_suits file p json d =
    let request = graph file json in
    on_graph request d file p (Prints (IsShown json (graph_of p)) d) (done request d (IsShown json (graph_of p)))

pub slice_suits : (file : Text) (p : Tree) (points : List Text) (program : Bool) (d : Decision) → Sliced file p points program d → Suits (slice file points program) d
slice_suits file p points program d =
    let request = slice file points program in
    let shown = IsSliceShown program p (slice_of (graph_of p) (IsPoint points)) in
    on_graph request d file p (OnPoints (graph_of p) points (Prints shown d) d) (on_points request d (graph_of p) points (Prints shown d) (done request d shown))

pub affected_suits : (base : Text) (p : Tree) (a : Text) (q : Tree) (d : Decision) → AffectedPoints base p a q d → Suits (affected base a) d
affected_suits base p a q d =
    let request = affected base a in
    let shown = IsAffectedText (IsAffected (graph_of q) (graph_of p)) in
    on_graph request d base p (OnGraph a q (Prints shown d) d) (on_graph request d a q (Prints shown d) (done request d shown))

pub integrate_suits : (base : Text) (p : Tree) (a : Text) (q : Tree) (b : Text) (s : Tree) (tries : ℕ) (d : Decision) → Integrated base p a q b s tries d
    → Suits (integrate base a b tries) d
integrate_suits base p a q b s tries d =
    let request = integrate base a b tries in
    on_all_graphs request d (base ∷ a ∷ b ∷ []) (p ∷ q ∷ s ∷ []) (IsReported p q s tries d) (λ reports. let (x, answer, is) = reports in reported request d tt text conflicts_text tries x is)

pub integrate_many_suits : (base : Text) (p : Tree) (names : List Text) (ps : List Tree) (tries : ℕ) (d : Decision) → IntegratedMany base p names ps tries d
    → Suits (integrate_many base names tries) d
integrate_many_suits base p names ps tries d =
    let request = integrate_many base names tries in
    on_all_graphs request d (base ∷ names) (p ∷ ps) (IsReportedOfMany p ps tries d) (λ reports. let (x, answer, is) = reports in reported request d tt text told_text tries x is)

pub run_suits : (file : Text) (words : List Text) (p : Tree) (state : Values) (steps : ℕ) (trace : Bool) (d : Decision) → Ran p state steps trace d
    → Suits (run file words steps trace) d
run_suits file words p state steps trace d is = ran (run file words steps trace) d tt (means.run p state steps) _ is

module _ (base a b : Text) (words : List Text) (steps : ℕ) (p q s : Tree) (state : Values) (d : Decision) where
  abbrev tries : Request
  tries = trial base a b words steps

  tried_by : (x : Answer) → IsTrialBy p q s state steps x d → Suits tries d
  tried_by (interference cs) is = at_decision tries d _ is tt
  tried_by (printed m) h =
      let o = means.run p state steps in
      let o1 = means.run q state steps in
      let o2 = means.run s state steps in
      shown tries d tt (have_ended o o1 o2) o o1 o2 (means.run m state (steps_together o o1 o2)) h
  tried_by (no_program n) is = at_decision tries d _ is tt
  tried_by spent is = at_decision tries d _ is tt

  pub trial_suits : Tried base p a q b s state steps d → Suits tries d
  trial_suits = on_all_graphs tries d (base ∷ a ∷ b ∷ []) (p ∷ q ∷ s ∷ []) (IsTried p q s state steps d) (λ tried. let (x, answer, is) = tried in tried_by x is)

pub edit_suits : (file script : Text) (author : ℕ) (x : Applied) (d : Decision) → d ≡ edit_decision script x → Suits (edit file script author) d
edit_suits file script author (becomes p) d is = at_decision (edit file script author) d _ is tt
edit_suits file script author (refused k why) d is = at_decision (edit file script author) d _ is tt

pub print_suits : (request : Request) (text : List ℕ) (d : Decision) → d ≡ prints Done text → Suits request d
print_suits request text d is = at_decision request d _ is tt

pub sample_suits : (seed parts : ℕ) (d : Decision) → SampleOutcome seed parts d → Suits (sample seed parts) d
sample_suits seed parts d (size, h) =
    let three = made.sample seed parts in
    let line = sample_line seed parts three.base three.a three.b in
    on_all_graphs (sample seed parts) d (codes "base" ∷ codes "A" ∷ codes "B" ∷ []) (three.base ∷ three.a ∷ three.b ∷ []) (IsSampled seed parts three.base three.a three.b d)
    (λ sampled. let (x, answer, is) = sampled in reported (sample seed parts) d tt line conflicts_text DEFAULT_TRIES x is) h

pub verify_suits : (base a b offered : Text) (p q s o : Tree) (d : Decision) → IsVerified p q s o d → Suits (verify base a b offered) d
verify_suits base a b offered p q s o d (v, _, is) = judged (verify base a b offered) d tt v is
