-- Four lists of final values have a table; so each trial is decided.
use Rattle.std.proofs.Common.{ℕ, Bool, true, false, ◌++◌, codes, refl}
use Rattle.hpr_terms.specs.declared.limits.TheConstants.{DEFAULT_TRIES}
use Rattle.hpr_syntax.specs.Run.{Outcome, run}
use Rattle.hpr_syntax.specs.Tree.{Tree}
use Rattle.hpr_syntax.specs.Values.{Values}
use Rattle.hpr_graph.specs.Answer.{Answer, interference, printed, no_program, spent, IsAnswer}
use Rattle.hpr_report.specs.TableText.{IsSingleValued}
use Rattle.hpr_inputs.specs.Decision.{prints}
use Rattle.hpr_decisions.specs.Integrate.{report}
use Rattle.hpr_decisions.specs.TrialFiles.{IsTrialBy, IsTrialOf, IsTried, ShowsIf, finals_of, have_ended, steps_together, three_lines, trial_line}
use Rattle.hpr_inputs.specs.declared.answer.Kind.TheVariants.{Done, NotEnded}
use Rattle.hpr_decisions.proofs.TrialLemmas.{single_finals}
use Rattle.hpr_inputs.proofs.SomeDecision.{HasOne}
use Rattle.hpr_report.proofs.SomeTable.{some_table}

-- what the runs of four programs show
shows_if : (b : Bool) (o o1 o2 om : Outcome) → IsSingleValued (finals_of o) → IsSingleValued (finals_of o1) → IsSingleValued (finals_of o2) → IsSingleValued (finals_of om)
    → HasOne (ShowsIf b o o1 o2 om)
shows_if true o o1 o2 om s s1 s2 sm n =
    some_table (finals_of o) (finals_of o1) (finals_of o2) (finals_of om) s s1 s2 sm (λ table.
    (let text = three_lines o o1 o2 ++ trial_line (codes "merged ") om ++ table.0 in
    n (prints Done text, (text, (table.0, table.1, refl), refl))))
shows_if false o o1 o2 om s s1 s2 sm n = n (prints NotEnded (three_lines o o1 o2), refl)

module _ (p q s : Tree) (state : Values) (steps : ℕ) where
  trial_of : (m : Tree) → HasOne (IsTrialOf p q s m state steps)
  trial_of m =
      let o = run p state steps in
      let o1 = run q state steps in
      let o2 = run s state steps in
      let all = steps_together o o1 o2 in
      let om = run m state all in
      shows_if (have_ended o o1 o2) o o1 o2 om (single_finals p state steps o refl) (single_finals q state steps o1 refl) (single_finals s state steps o2 refl)
      (single_finals m state all om refl)

  trial_by : (x : Answer) → HasOne (IsTrialBy p q s state steps x)
  trial_by (interference cs) n = n (report DEFAULT_TRIES (interference cs), refl)
  trial_by (printed m) n = trial_of m n
  trial_by (no_program k) n = n (report DEFAULT_TRIES (no_program k), refl)
  trial_by spent n = n (report DEFAULT_TRIES spent, refl)

  pub tried : ¬ (¬ ((x : Answer) × IsAnswer p q s DEFAULT_TRIES x)) → HasOne (IsTried p q s state steps)
  tried some n = some (λ x. trial_by x.0 (λ found. n (found.0, (x.0, x.1, found.1))))
