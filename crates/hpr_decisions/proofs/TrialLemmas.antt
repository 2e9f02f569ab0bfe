-- Trials: the final values of runs, and that one answer makes one decision.
use Rattle.std.proofs.Common.{◌≡◌, ℕ, ◌≤◌, arith, Bool, true, false, List, ◌++◌, ap, sym, ◌∙◌, subst, inl, inr, codes}
use Rattle.hpr_terms.specs.declared.limits.TheConstants.{DEFAULT_TRIES}
use Rattle.hpr_syntax.specs.Run as means
use Rattle.hpr_syntax.specs.Run.{After, Outcome, ends, faults, goes, more, outcome, run, run_body, stops}
use Rattle.hpr_syntax.specs.Shape.{IsProgram}
use Rattle.hpr_syntax.specs.Tree.{Tree}
use Rattle.hpr_syntax.specs.Values.{Values}
use Rattle.hpr_graph.specs.Answer.{Answer, interference, printed, no_program, spent}
use Rattle.hpr_graph.proofs.Lists.{in_none}
use Rattle.hpr_engine.specs.Budget as budget
use Rattle.hpr_engine.proofs.OneAnswer.{one_answer}
use Rattle.hpr_report.specs.TableText.{IsSingleValued}
use Rattle.hpr_report.proofs.OneTable.{one_table_text, ended_single_valued}
use Rattle.hpr_inputs.specs.Decision.{Decision, prints}
use Rattle.hpr_decisions.specs.Integrate.{no_program_text, spent_text}
use Rattle.hpr_decisions.specs.Outcome.{AgreeButForBudget, HasSearched}
use Rattle.hpr_decisions.specs.TrialFiles.{IsTrialBy, IsTrialText, IsTried, ShowsIf, finals_of, have_ended, steps_of, steps_together, three_lines, trial_line}
use Rattle.hpr_inputs.specs.declared.answer.Kind.TheVariants.{Done}

-- no name has two values where a run ends, and else no name has one
pub single_finals : (p : Tree) (s : Values) (n : ℕ) (o : Outcome) → o ≡ run p s n → IsSingleValued (finals_of o)
single_finals p s n (ends f steps) e = ended_single_valued p s n steps f (sym e)
single_finals p s n (faults tag fault steps) e = λ x v w h k. absurd (in_none (x, v) h)
single_finals p s n (more steps) e = λ x v w h k. absurd (in_none (x, v) h)

-- a run takes no more steps than it may
within : (names : List (List ℕ)) (n : ℕ) (x : After) → steps_of (outcome names n x) ≤ n
within names n (goes s left) = omega arith
within names n (stops t f left) = omega arith
within names n means.spent = omega arith

pub steps_within : (p : Tree) (s : Values) (n : ℕ) (o : Outcome) → o ≡ run p s n → steps_of o ≤ n
steps_within p s n o e = subst (λ (x : Outcome). steps_of x ≤ n) (sym e) (within p.finals n (run_body p.body s n))

module _ (p q s : Tree) (state : Values) (steps : ℕ) where
  -- one answer makes one decision
  module _ (o o1 o2 om : Outcome) where
    one_text : (t u : List ℕ) → IsTrialText o o1 o2 om t → IsTrialText o o1 o2 om u → t ≡ u
    one_text t u (table, is_table, is) (other, is_too, so) =
        is ∙ ap (λ x. three_lines o o1 o2 ++ trial_line (codes "merged ") om ++ x) (one_table_text (finals_of o) (finals_of o1) (finals_of o2) (finals_of om) table other is_table is_too) ∙ sym so

    one_shown : (all : Bool) (c d : Decision) → ShowsIf all o o1 o2 om c → ShowsIf all o o1 o2 om d → c ≡ d
    one_shown true c d (t, shows, is) (u, shows_too, so) = is ∙ ap (prints Done) (one_text t u shows shows_too) ∙ sym so
    one_shown false c d h k = h ∙ sym k

    shown_searched : (all : Bool) (d : Decision) → ShowsIf all o o1 o2 om d → HasSearched d
    shown_searched true d (t, shows, is) = (t, inl is)
    shown_searched false d h = (three_lines o o1 o2, inr (inr h))

  abbrev base_run : Outcome
  base_run = run p state steps

  abbrev a_run : Outcome
  a_run = run q state steps

  abbrev b_run : Outcome
  b_run = run s state steps

  abbrev merged_run : Tree → Outcome
  merged_run m = run m state (steps_together base_run a_run b_run)

  one_by : (x : Answer) (c d : Decision) → IsTrialBy p q s state steps x c → IsTrialBy p q s state steps x d → c ≡ d
  one_by (interference cs) c d h k = h ∙ sym k
  one_by (printed m) c d h k = one_shown base_run a_run b_run (merged_run m) (have_ended base_run a_run b_run) c d h k
  one_by (no_program n) c d h k = h ∙ sym k
  one_by spent c d h k = h ∙ sym k

  searched_by : (x : Answer) (d : Decision) → budget.HasSearched x → IsTrialBy p q s state steps x d → HasSearched d
  searched_by (interference cs) d h is = absurd h
  searched_by (printed m) d h is = shown_searched base_run a_run b_run (merged_run m) (have_ended base_run a_run b_run) d is
  searched_by (no_program n) d h is = (no_program_text n, inr (inl is))
  searched_by spent d h is = absurd h

  agree_by : (x y : Answer) (c d : Decision) → budget.Agree x y → IsTrialBy p q s state steps x c → IsTrialBy p q s state steps y d → AgreeButForBudget c d
  agree_by x y c d (inl e) is so = inl (one_by x c d is (subst (λ (z : Answer). IsTrialBy p q s state steps z d) (sym e) so))
  agree_by x y c d (inr (inl (e, h))) is so =
      inr (inl ((spent_text DEFAULT_TRIES, subst (λ (z : Answer). IsTrialBy p q s state steps z c) e is), searched_by y d h so))
  agree_by x y c d (inr (inr (h, e))) is so =
      inr (inr (searched_by x c h is, (spent_text DEFAULT_TRIES, subst (λ (z : Answer). IsTrialBy p q s state steps z d) e so)))

  pub one_tried : (c d : Decision) → IsProgram p → IsProgram q → IsProgram s → IsTried p q s state steps c → IsTried p q s state steps d → AgreeButForBudget c d
  one_tried c d is_p is_q is_s (x, answer, is) (y, answer_too, so) = agree_by x y c d (one_answer p q s is_p is_q is_s DEFAULT_TRIES x y answer answer_too) is so
