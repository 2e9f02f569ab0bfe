-- The law of time: the steps of a run come in time order, each is due, what is due before one of them is among them, and the place where
-- a run stops is the next.
use Rattle.hpr_meaning.specs.Any.Meaning.{Meaning, HasLaws}
use Rattle.std.proofs.Common.{◌≡◌, ◌≢◌, ℕ, true, false, List, [], ◌∷◌, ◌++◌, Option, Some, None, Contains, refl, ap, sym, subst, ◌∙◌, inl, inr}
use Rattle.std.specs.List.{AllByRecursion}
use Rattle.hpr_syntax.specs.Tree.{Tree}
use Rattle.hpr_syntax.specs.Shape.{IsProgram}
use Rattle.hpr_meaning.specs.Any.Run.{FinalValues, ends, faults, more, Outcome, run, outcome}
use Rattle.hpr_syntax.specs.Skeleton.{Skeleton, Distinct, skeleton}
use Rattle.hpr_paths.specs.Times.{Place, ComesBefore, IsBefore}
use Rattle.hpr_meaning.specs.Any.Instances.{Did, Instance, truth, stops, trace, instances, IsStopOf, stop_of, after_of}
use Rattle.hpr_meaning.specs.Any.Due.{IsDue, IsListed}
use Rattle.hpr_meaning.specs.Any.TimeLaw.{IsAscending, IsTimely, IsNext}
use Rattle.hpr_paths.proofs.Among.{Among, here, there, among_contains, contains_among, no_both}
use Rattle.hpr_paths.specs.Runs.{Ascending}
use Rattle.hpr_paths.proofs.TimeOrder.{never_before_itself, before_trans}
use Rattle.hpr_paths.proofs.Logs.{places_of, stop_if}
use Rattle.hpr_paths.proofs.Listed.{IsMet}
use Rattle.hpr_meaning.proofs.Executed.{Does}
use Rattle.hpr_meaning.proofs.TraceRun.{trace_run}
use Rattle.hpr_meaning.proofs.RunFacts.{Ending, RunFacts, facts, instances_are, cause_of_due, due_of_cause, item_caused, item_place, met_of, HasCauseAtTop}
use Rattle.hpr_paths.proofs.Different.{distinct_program}

module _ (M : Meaning) (LW : HasLaws M) where
  -- ascending, from the steps in order
  strictly : (B : Skeleton) → Distinct B → (i : Place) (is : List (Instance M)) (zs : List Place) → AllByRecursion (ComesBefore B 0 i) (places_of is ++ zs)
      → AllByRecursion (λ (j : Instance M). ComesBefore B 0 i j.0 × (i ≢ j.0)) is
  strictly B di i [] zs e = tt
  strictly B di i (j ∷ is) zs e = ((e.0, λ q. never_before_itself B 0 di i (subst (ComesBefore B 0 i) (sym q) e.0)), strictly B di i is zs e.1)

  ascending : (B : Skeleton) → Distinct B → (is : List (Instance M)) (zs : List Place) → Ascending (ComesBefore B 0) (places_of is ++ zs) → IsAscending M (λ a b. ComesBefore B 0 a b × (a ≢ b)) is
  ascending B di [] zs h = tt
  ascending B di (i ∷ is) zs h = (strictly B di i.0 is zs h.0, ascending B di is zs h.1)

  -- an item comes before the place where the run stopped
  before_stop : (R : Place → Place → Type 0) (z : Place) (i : Instance M) (is : List (Instance M)) → Ascending R (places_of is ++ (z ∷ [])) → Among i is → R i.0 z
  before_stop R z i _ h (here {ms = ms}) = last R z i.0 ms h.0
    where
      last : (R : Place → Place → Type 0) (z i : Place) (is : List (Instance M)) → AllByRecursion (R i) (places_of is ++ (z ∷ [])) → R i z
      last R z i [] e = e.0
      last R z i (j ∷ is) e = last R z i is e.1
  before_stop R z i _ h (there {n = n} {ms = ms} m) = before_stop R z i ms h.1 m

  -- the last of the steps
  each_last : (P : Place → Type 0) (z : Place) (is : List (Instance M)) → AllByRecursion P (places_of is ++ (z ∷ [])) → P z
  each_last P z [] h = h.0
  each_last P z (i ∷ is) h = each_last P z is h.1

  abbrev IsEnd : Outcome M → Type 0
  IsEnd (ends f n) = Unit {0}
  IsEnd (faults t f n) = ⊥
  IsEnd (more n) = ⊥

  -- a run that ends has a course that goes on
  not_stopped : (p : Tree) (s : M.State) (n : ℕ) (at : Place) (why : Option M.Fault) (log : List (Instance M)) (left : ℕ) → IsEnd (outcome M p.finals n (after_of M s (stops at why log left))) → ⊥
  not_stopped p s n at None log left h = h
  not_stopped p s n at (Some f) log left h = h

  pub run_of_course : (p : Tree) (s : M.State) (n : ℕ) → outcome M p.finals n (after_of M s (trace M s p.body [] [] n)) ≡ run M p s n
  run_of_course p s n = ap (outcome M p.finals n) (trace_run M LW s p.body [] [] n)

  pub ends_over : (p : Tree) (s : M.State) (n steps : ℕ) (finals : FinalValues M) (f : RunFacts M LW p.body s n (trace M s p.body [] [] n)) → run M p s n ≡ ends finals steps → f.over ≡ true
  ends_over p s n steps finals f e = go f.how
    where
      go : Ending M LW p.body s n (trace M s p.body [] [] n) f.over f.stop → f.over ≡ true
      go (inl h) = h.0
      go (inr h) = absurd (not_stopped p s n f.stop h.1.0 h.1.1 h.1.2 (subst (λ o. IsEnd o) (sym e ∙ (sym (run_of_course p s n) ∙ ap (λ t. outcome M p.finals n (after_of M s t)) h.1.3)) tt))

  listed_by : (is : List (Instance M)) (a : Place) → (v : Did M) × Among (a, v) is → IsListed M is a
  listed_by is a (v, m) = ((a, v), contains_among (a, v) is m, refl)

  module _ (p : Tree) (s : M.State) (n : ℕ) (prog : IsProgram p) where
    abbrev pub di : Distinct (skeleton p.body)
    di = distinct_program p prog

    abbrev pub f : RunFacts M LW p.body s n (trace M s p.body [] [] n)
    f = facts M LW p.body s n di

    pub due_before : (a : Place) (j : Instance M) → IsDue M p.body f.is a → Among j f.is → IsBefore p.body a j.0 → IsListed M f.is a
    due_before a j d m b = go (met_of M LW p.body s n _ f a (cause_of_due M LW p.body di f.is (item_place M LW p.body s n _ f) a d))
      where
        stop_after : f.over ≡ false → ComesBefore (skeleton p.body) 0 j.0 f.stop
        stop_after e = before_stop (ComesBefore (skeleton p.body) 0) f.stop j f.is (subst (λ y. Ascending (ComesBefore (skeleton p.body) 0) (places_of f.is ++ stop_if y f.stop)) e f.steps_ascend) m

        go : IsMet (Did M) (truth M) (Does M LW p.body s) (skeleton p.body) [] f.is f.over f.stop a → IsListed M f.is a
        go (inl h) = listed_by f.is a h
        go (inr h) = absurd (h.1 (before_trans (skeleton p.body) 0 di a j.0 f.stop b (stop_after h.0)))

    pub all_due : f.over ≡ true → (a : Place) → IsDue M p.body f.is a → IsListed M f.is a
    all_due e a d = go (met_of M LW p.body s n _ f a (cause_of_due M LW p.body di f.is (item_place M LW p.body s n _ f) a d))
      where
        go : IsMet (Did M) (truth M) (Does M LW p.body s) (skeleton p.body) [] f.is f.over f.stop a → IsListed M f.is a
        go (inl h) = listed_by f.is a h
        go (inr h) = no_both e h.0

    pub throughout : (P : List (Instance M) → Type 0) → P f.is → P (instances M p s n)
    throughout P h = subst P (sym (instances_are M LW p.body s n _ f)) h

    -- where the (run M) stopped
    module _ (a : Place) (is_stop : IsStopOf M p s n a) where
      stopped : (f.over ≡ false) × (f.stop ≡ a)
      stopped = go f.how
        where
          go : Ending M LW p.body s n (trace M s p.body [] [] n) f.over f.stop → (f.over ≡ false) × (f.stop ≡ a)
          go (inl (e, (log, left, is, count))) = let none : None ≡ Some a = sym (ap (stop_of M) is) ∙ is_stop in absurd cc
          go (inr (e, (why, log, left, is, because, count))) =
              let one : Some f.stop ≡ Some a = sym (ap (stop_of M) is) ∙ is_stop in (e, cc)

      steps_then_stop : places_of f.is ++ stop_if f.over f.stop ≡ places_of f.is ++ (a ∷ [])
      steps_then_stop = ap (λ e. places_of f.is ++ stop_if e f.stop) stopped.0 ∙ ap (λ z. places_of f.is ++ (z ∷ [])) stopped.1

      comes_behind : (i : Instance M) → Among i f.is → IsBefore p.body i.0 a
      comes_behind i m = before_stop (ComesBefore (skeleton p.body) 0) a i f.is (subst (Ascending (ComesBefore (skeleton p.body) 0)) steps_then_stop f.steps_ascend) m

      pub next_of_stop : IsNext M p.body f.is a
      next_of_stop = record {
        due = due_of_cause M LW p.body f.is a (each_last (HasCauseAtTop M LW p.body f.is) a f.is (subst (AllByRecursion (HasCauseAtTop M LW p.body f.is)) steps_then_stop f.caused));
        not_listed = λ (i, c, e). never_before_itself (skeleton p.body) 0 di a (subst (λ b. IsBefore p.body b a) e (comes_behind i (among_contains i f.is c)));
        behind = λ i c. comes_behind i (among_contains i f.is c);
        due_before = λ b d before. elim (met_of M LW p.body s n _ f b (cause_of_due M LW p.body di f.is (item_place M LW p.body s n _ f) b d)) [
          | inl h ↦ listed_by f.is b h
          | inr h ↦ absurd (h.1 (subst (IsBefore p.body b) (sym stopped.1) before))
        ];
      }

    pub timely : IsTimely M p s n
    timely = record {
      ascending = throughout (IsAscending M (λ a b. IsBefore p.body a b × (a ≢ b))) (ascending (skeleton p.body) di f.is (stop_if f.over f.stop) f.steps_ascend);
      listed_due = throughout (λ is. (i : Instance M) → Contains is i → IsDue M p.body is i.0)
          (λ i c. due_of_cause M LW p.body f.is i.0 (item_caused M LW p.body s n _ f i (among_contains i f.is c)));
      due_before_listed = throughout (λ is. (a : Place) (j : Instance M) → IsDue M p.body is a → Contains is j → IsBefore p.body a j.0 → IsListed M is a)
          (λ a j d c b. due_before a j d (among_contains j f.is c) b);
      due_at_end = λ finals steps e. throughout (λ is. (a : Place) → IsDue M p.body is a → IsListed M is a) (all_due (ends_over p s n steps finals f e));
      stop_next = λ a is_stop. throughout (λ is. IsNext M p.body is a) (next_of_stop a is_stop);
    }
