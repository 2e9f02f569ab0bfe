-- What a finished trial shows.
use Rattle.std.proofs.Common.{◌≡◌, ℕ, ◌+◌, Bool, true, ◌&&◌, List, [], ◌∷◌, ◌++◌, Ok, refl, ap, ap₂, ◌∙◌, subst, Some, map, codes, arith}
use Rattle.hpr_terms.specs.declared.limits.TheConstants.{DEFAULT_TRIES}
use Rattle.hpr_io.specs.Files.{Files, bytes_of}
use Rattle.hpr_syntax.specs.Grammar.{tagged}
use Rattle.hpr_syntax.specs.Meaning.{Ends}
use Rattle.hpr_syntax.specs.Run.{FinalValues, Outcome, ends, faults, more}
use Rattle.hpr_syntax.specs.Run as means
use Rattle.hpr_syntax.specs.Shape.{IsProgram}
use Rattle.hpr_syntax.specs.Spelling.{Spells}
use Rattle.hpr_syntax.specs.Tree.{Tree}
use Rattle.hpr_syntax.specs.Values.{Values}
use Rattle.hpr_graph.specs.Answer.{interference, printed, no_program, spent, IsAnswer}
use Rattle.hpr_engine.proofs.PrintedKeeps.{printed_keeps}
use Rattle.hpr_report.specs.GraphTexts.{on_lines}
use Rattle.hpr_report.specs.TableText.{Row, AreRows, table_line}
use Rattle.hpr_report.proofs.OneTable.{kept_in_rows}
use Rattle.hpr_words.specs.Request.{Request, Text, trial}
use Rattle.hpr_inputs.specs.Decision.{Decision, prints, refuses}
use Rattle.hpr_decisions.specs.Ends as call
use Rattle.hpr_inputs.specs.Files.{OnFiles}
use Rattle.hpr_decisions.specs.Outcome.{RequestOutcome, OutcomeIfTold}
use Rattle.hpr_inputs.specs.States.{states_of}
use Rattle.hpr_decisions.specs.TrialFiles.{IsTried, ShowsIf, ShowsTrial, Tried, TrialOutcome, finals_of, has_ended, have_ended, steps_together, three_lines, trial_line}
use Rattle.hpr_decisions.specs.TrialKeeps.{EndsTrial, IsKeptTrial, KeepsTrial}
use Rattle.hpr_inputs.specs.declared.answer.Kind.TheVariants as kind
use Rattle.hpr_decisions.specs.declared.status.Status.{Status}
use Rattle.hpr_decisions.specs.declared.status.Status.TheVariants as status
use Rattle.hpr_syntax.proofs.ExactSteps.{exact_steps}
use Rattle.hpr_decisions.proofs.Theorem.{of_spelled}
use Rattle.hpr_decisions.proofs.Unrefused.{past_all_graphs, past_files}
use Rattle.hpr_inputs.proofs.VersionLemmas.{of_state}

-- which outcomes are no program's
not_ended_done : (x : List ℕ) (bytes : List ℕ) → prints kind.Done bytes ≡ prints kind.NotEnded x → ⊥
not_ended_done x bytes e = cc

same_text : (x y : List ℕ) → prints kind.Done x ≡ prints kind.Done y → x ≡ y
same_text x y e = cc

all_true : (b c d : Bool) → b ≡ true → c ≡ true → d ≡ true → (b && (c && d)) ≡ true
all_true b c d p q r = rw (p, q, r) refl

module _ (p q r : Tree) (state : Values) (steps : ℕ) where
  abbrev Kept : List ℕ → Type 0
  Kept bytes = IsKeptTrial p q r state steps bytes

  module _ (is_p : IsProgram p) (is_q : IsProgram q) (is_r : IsProgram r) (bytes : List ℕ) where
    -- where the three end, so does the merged program
    module _ (m : Tree) (answer : IsAnswer p q r DEFAULT_TRIES (printed m)) (f0 f1 f2 : FinalValues) (n0 n1 n2 : ℕ)
        (base_ends : means.run p state steps ≡ ends f0 n0) (a_ends : means.run q state steps ≡ ends f1 n1) (b_ends : means.run r state steps ≡ ends f2 n2) where
      abbrev merged_run : Outcome
      merged_run = means.run m state (n0 + n1 + n2)

      kept_text : (text table : List ℕ) (rows : List Row) → bytes ≡ text → text ≡ three_lines (ends f0 n0) (ends f1 n1) (ends f2 n2) ++ trial_line (codes "merged ") merged_run ++ table
          → table ≡ on_lines (map table_line rows) → AreRows f0 f1 f2 (finals_of merged_run) rows → Kept bytes
      kept_text text table rows same is table_is are =
          let (f, (n, ended), kept) =
          printed_keeps p q r DEFAULT_TRIES m is_p is_q is_r answer state n0 n1 n2 f0 f1 f2
          (n0, exact_steps p state steps n0 f0 base_ends) (n1, exact_steps q state steps n1 f1 a_ends) (n2, exact_steps r state steps n2 f2 b_ends) in
          let are_rows : AreRows f0 f1 f2 f rows = subst (λ (o : Outcome). AreRows f0 f1 f2 (finals_of o) rows) ended are in
          record {
            m = m;
            answer = answer;
            base = f0;
            a = f1;
            b = f2;
            merged = f;
            base_steps = n0;
            a_steps = n1;
            b_steps = n2;
            merged_steps = n;
            base_ends = base_ends;
            a_ends = a_ends;
            b_ends = b_ends;
            merged_ends = ended;
            rows = rows;
            are_rows = are_rows;
            kept = kept_in_rows f0 f1 f2 f rows kept are_rows;
            text = same ∙ is ∙ ap₂ (λ (o : Outcome) (t : List ℕ). three_lines (ends f0 n0) (ends f1 n1) (ends f2 n2) ++ trial_line (codes "merged ") o ++ t) ended table_is;
          }

    by_runs : (m : Tree) → IsAnswer p q r DEFAULT_TRIES (printed m) → (o o1 o2 : Outcome) → means.run p state steps ≡ o → means.run q state steps ≡ o1 → means.run r state steps ≡ o2
        → ShowsTrial o o1 o2 (means.run m state (steps_together o o1 o2)) (prints kind.Done bytes) → Kept bytes
    by_runs m answer (ends f0 n0) (ends f1 n1) (ends f2 n2) e e1 e2 (text, (table, (rows, are, table_is), is), shown) =
        kept_text m answer f0 f1 f2 n0 n1 n2 e e1 e2 text table rows (same_text bytes text shown) is table_is are
    by_runs m answer (ends f0 n0) (ends f1 n1) (faults part fault n2) e e1 e2 h = absurd (not_ended_done _ bytes h)
    by_runs m answer (ends f0 n0) (ends f1 n1) (more n2) e e1 e2 h = absurd (not_ended_done _ bytes h)
    by_runs m answer (ends f0 n0) (faults part fault n1) o2 e e1 e2 h = absurd (not_ended_done _ bytes h)
    by_runs m answer (ends f0 n0) (more n1) o2 e e1 e2 h = absurd (not_ended_done _ bytes h)
    by_runs m answer (faults part fault n0) o1 o2 e e1 e2 h = absurd (not_ended_done _ bytes h)
    by_runs m answer (more n0) o1 o2 e e1 e2 h = absurd (not_ended_done _ bytes h)

    tried_kept : IsTried p q r state steps (prints kind.Done bytes) → Kept bytes
    tried_kept (interference cs, answer, e) = absurd cc
    tried_kept (printed m, answer, h) = by_runs m answer (means.run p state steps) (means.run q state steps) (means.run r state steps) refl refl refl h
    tried_kept (no_program n, answer, e) = absurd cc
    tried_kept (spent, answer, e) = absurd cc

  -- where the three end, the trial is finished or was none
  abbrev AllEnd : FinalValues → FinalValues → FinalValues → Type 0
  AllEnd f0 f1 f2 = Ends p state steps f0 × Ends q state steps f1 × Ends r state steps f2

  module _ (d : Decision) (is : status.NotEnded ≡ call.status_of d) where
    finished : (text : List ℕ) → d ≡ prints kind.Done text → ⊥
    finished text e = let no : status.NotEnded ≡ status.Done = is ∙ ap call.status_of e in cc

    shown_finished : (o o1 o2 om : Outcome) → has_ended o ≡ true → has_ended o1 ≡ true → has_ended o2 ≡ true → ShowsTrial o o1 o2 om d → ⊥
    shown_finished o o1 o2 om e e1 e2 h =
        let all : have_ended o o1 o2 ≡ true = all_true (has_ended o) (has_ended o1) (has_ended o2) e e1 e2 in
        let (text, shows, same) = subst (λ (b : Bool). ShowsIf b o o1 o2 om d) all h in
        finished text same

    all_finished : (f0 f1 f2 : FinalValues) → AllEnd f0 f1 f2 → IsTried p q r state steps d → ⊥
    all_finished f0 f1 f2 ended (interference cs, answer, e) = let no : status.NotEnded ≡ status.Interference = is ∙ ap call.status_of e in cc
    all_finished f0 f1 f2 ((n0, e), (n1, e1), (n2, e2)) (printed m, answer, h) =
        let o = means.run p state steps in
        let o1 = means.run q state steps in
        let o2 = means.run r state steps in
        shown_finished o o1 o2 (means.run m state (steps_together o o1 o2)) (ap has_ended e) (ap has_ended e1) (ap has_ended e2) h
    all_finished f0 f1 f2 ended (no_program n, answer, e) = let no : status.NotEnded ≡ status.NoProgram = is ∙ ap call.status_of e in cc
    all_finished f0 f1 f2 ended (spent, answer, e) = let no : status.NotEnded ≡ status.Spent = is ∙ ap call.status_of e in cc

-- what is decided of three files that are not refused
module _ (fs : Files) (d : Decision) (taken : (message : List ℕ) → d ≡ refuses message → ⊥) where
  module _ (base a b : Text) (words : List Text) (steps : ℕ) (state : Values) (told : states_of words ≡ Ok state) (o : TrialOutcome fs base a b words steps d) where
    abbrev Spelled : (Tree → Tree → Tree → Type 0) → Type 0
    Spelled P = (p q r : Tree) → Spells tagged (bytes_of fs base) p → Spells tagged (bytes_of fs a) q → Spells tagged (bytes_of fs b) r → P p q r

    of_programs : (P : Tree → Tree → Tree → Type 0) → ((p q r : Tree) → IsProgram p → IsProgram q → IsProgram r → IsTried p q r state steps d → P p q r) → Spelled P
    of_programs P f =
        let on_files = of_state (states_of words) state told (λ t d. OnFiles fs base a b (λ p q r. Tried base p a q b r t steps d) d) d o in
        let (p, q, r, hp, hq, hr, on_graphs) = past_files fs d taken base a b (λ p q r. Tried base p a q b r state steps d) on_files in
        let (few, tried) = past_all_graphs fs d taken (base ∷ a ∷ b ∷ []) (p ∷ q ∷ r ∷ []) (IsTried p q r state steps d) (omega arith) on_graphs in
        of_spelled (bytes_of fs base) (bytes_of fs a) (bytes_of fs b) p q r hp hq hr P (f p q r hp.program hq.program hr.program tried)

done_is_taken : (bytes message : List ℕ) → prints kind.Done bytes ≡ refuses message → ⊥
done_is_taken bytes message e = cc

pub trial_keeps : (request : Request) (fs : Files) (bytes : List ℕ) → RequestOutcome request fs (prints kind.Done bytes) → KeepsTrial request fs bytes
trial_keeps (trial base a b words steps) fs bytes o = λ state p q r told sp sq sr.
    of_programs fs (prints kind.Done bytes) (done_is_taken bytes) base a b words steps state told o (λ p q r. IsKeptTrial p q r state steps bytes)
    (λ p q r is_p is_q is_r tried. tried_kept p q r state steps is_p is_q is_r bytes tried) p q r sp sq sr
trial_keeps _ fs bytes o = tt

request_ends : (request : Request) (fs : Files) (d : Decision) → status.NotEnded ≡ call.status_of d → RequestOutcome request fs d → (s : Status) → (s ≡ status.NotEnded) → EndsTrial request fs s
request_ends (trial base a b words steps) fs d is o s e = λ state p q r f0 f1 f2 told sp sq sr base_ends a_ends b_ends not_ended.
    of_programs fs d (λ message same. (let no : status.NotEnded ≡ status.Refused = is ∙ ap call.status_of same in cc)) base a b words steps state told o
    (λ p q r. AllEnd p q r state steps f0 f1 f2 → ⊥)
    (λ p q r is_p is_q is_r tried ended. all_finished p q r state steps d is f0 f1 f2 ended tried) p q r sp sq sr (base_ends, a_ends, b_ends)
request_ends _ fs d is o s e = tt

-- where the status is another, there is nothing to say
other_ends : (request : Request) (fs : Files) (s : Status) → (s ≡ status.NotEnded → ⊥) → EndsTrial request fs s
other_ends (trial base a b words steps) fs s other = λ state p q r f0 f1 f2 told sp sq sr base_ends a_ends b_ends. other
other_ends _ fs s other = tt

module _ (request : Request) (fs : Files) (reads : List ℕ → Type 0) where
  abbrev Told : Decision → Type 0
  Told = OutcomeIfTold (Some request) (Some fs)

  pub ends_trial : (s : Status) (before now : ℕ) (out err : call.Change) → call.Ends s Told reads before now out err → EndsTrial request fs s
  ends_trial status.NotEnded before now out err h = request_ends request fs h.r h.status_is (h.outcome fs refl) status.NotEnded refl
  ends_trial s before now out err h = other_ends request fs s (λ e. cc)
