-- What is known of a run of a program, in one record.
use Rattle.hpr_meaning.specs.Any.Meaning.{Meaning, HasLaws}
use Rattle.std.proofs.Common.{◌≡◌, ℕ, ◌+◌, Bool, true, false, List, [], ◌++◌, ◌⊎◌, Option, Some, None, length, refl, ap, sym, subst, ◌∙◌, inl, inr, arith, append-nil}
use Rattle.hpr_syntax.specs.Body.{Body}
use Rattle.hpr_syntax.specs.Skeleton.{Skeleton, exit, Distinct, skeleton}
use Rattle.hpr_syntax.specs.Pairs.{first_of, FollowsIn}
use Rattle.hpr_paths.specs.Times.{Place, ComesBefore}
use Rattle.hpr_meaning.specs.Any.Instances.{Did, Instance, truth, Course, goes, stops, trace, log_of}
use mathlib.Core.List.{reverse_aux}
use Rattle.hpr_meaning.specs.Any.Due.{IsDue}
use Rattle.hpr_paths.proofs.Among.{Among, here, there, among_contains, contains_among}
use Rattle.std.specs.List.{AllByRecursion}
use Rattle.hpr_paths.specs.Runs.{Ascending}
use Rattle.hpr_paths.proofs.Steps.{steps_ascend}
use Rattle.hpr_paths.proofs.Causes.{IsFirstOnTop, IsCalledBy, items, HasCause, has_cause}
use Rattle.hpr_paths.proofs.Listed.{IsMet, where_stopped, top_met, called_met}
use Rattle.hpr_paths.proofs.PlacesUnder.{IsPlaceUnder, first_is_place, called_is_place}
use Rattle.hpr_meaning.proofs.DueCauses.{standing_of_first, standing_of_called, first_of_standing, called_of_standing, ParentOutside}
use Rattle.hpr_paths.proofs.Walks.{WalksAlong, walks}
use Rattle.hpr_paths.proofs.Logs.{reversed_twice, log_of_items, IsLawful, log_lawful, places_of, stop_if, steps_of_items}
use Rattle.hpr_meaning.proofs.Executed.{Does, StopsFor, HasSpent, HasRun, course_has_run}
use Rattle.hpr_paths.proofs.Programs.{at_end}

module _ (M : Meaning) (LW : HasLaws M) where
  -- a run went on to the end, or stopped at a place
  abbrev pub Ending : Body → M.State → ℕ → Course M → Bool → Place → Type 0
  Ending p s n tr over stop =
      ((over ≡ true) × ((log : List (Instance M)) × (left : ℕ) × (tr ≡ goes log left) × (length log + left ≡ n)))
      ⊎ ((over ≡ false) × ((why : Option M.Fault) × (log : List (Instance M)) × (left : ℕ) × (tr ≡ stops stop why log left) × StopsFor M LW p s stop why log left × HasSpent M LW p s why (length log + left) n))

pub record RunFacts (M : Meaning) (LW : HasLaws M) (p : Body) (s : M.State) (n : ℕ) (tr : Course M) : Type 0 where
  pub over : Bool
  pub stop : Place
  pub is : List (Instance M)
  pub log : log_of M tr ≡ reverse_aux is []
  pub steps_ascend : Ascending (ComesBefore (skeleton p) 0) (places_of is ++ stop_if over stop)
  pub caused : AllByRecursion (HasCause (Did M) (truth M) (Does M LW p s) (skeleton p) 0 [] is) (places_of is ++ stop_if over stop)
  pub met_top : (a : Place) → IsFirstOnTop (skeleton p) 0 [] a → IsMet (Did M) (truth M) (Does M LW p s) (skeleton p) [] is over stop a
  pub met_called : (a b : Place) (v : Did M) → Among (b, v) is → IsCalledBy (skeleton p) [] a b (truth M v) → IsMet (Did M) (truth M) (Does M LW p s) (skeleton p) [] is over stop a
  pub log_lawful : IsLawful (Did M) (truth M) (Does M LW p s) (log_of M tr)
  pub walks : WalksAlong (FollowsIn (skeleton p) at_end) (first_of (skeleton p) at_end).0 (places_of is ++ stop_if over stop) over exit
  pub how : Ending M LW p s n tr over stop

module _ (M : Meaning) (LW : HasLaws M) where
  same_log : (is h : List (Instance M)) → h ≡ reverse_aux is [] → reverse_aux h [] ≡ is
  same_log is h e = ap (λ l. reverse_aux l []) e ∙ (reversed_twice is [] [] ∙ append-nil is)

  spent_from_zero : (p : Body) (s : M.State) (why : Option M.Fault) (a n : ℕ) → HasSpent M LW p s why a (0 + n) → HasSpent M LW p s why a n
  spent_from_zero p s None a n c = omega (arith, c)
  spent_from_zero p s (Some f) a n c = omega (arith, c)

  module _ (p : Body) (s : M.State) (n : ℕ) (di : Distinct (skeleton p)) where
    facts_of : (tr : Course M) → HasRun M LW p s (skeleton p) 0 [] [] n tr → RunFacts M LW p s n tr
    facts_of (goes h l) r =
        let is = items (Did M) (truth M) (Does M LW p s) (skeleton p) 0 [] [] r.0 true h r.1 in
        let st = steps_of_items (Did M) (truth M) (Does M LW p s) (skeleton p) 0 [] [] r.0 true h r.1 in
        record {
          over = true;
          stop = where_stopped (Did M) (truth M) (Does M LW p s) (skeleton p) 0 [] [] r.0 true h r.1;
          is = is;
          log = log_of_items (Did M) (truth M) (Does M LW p s) (skeleton p) 0 [] [] r.0 true h r.1;
          steps_ascend = subst (Ascending (ComesBefore (skeleton p) 0)) st (steps_ascend (Did M) (truth M) (Does M LW p s) (skeleton p) 0 [] [] r.0 true h di r.1);
          caused = subst (AllByRecursion (HasCause (Did M) (truth M) (Does M LW p s) (skeleton p) 0 [] is)) st (has_cause (Did M) (truth M) (Does M LW p s) (skeleton p) 0 [] [] r.0 true h r.1);
          met_top = λ a t. top_met (Did M) (truth M) (Does M LW p s) (skeleton p) 0 [] [] r.0 true h di r.1 a t;
          met_called = λ a b v m k. called_met (Did M) (truth M) (Does M LW p s) (skeleton p) 0 [] [] r.0 true h di r.1 a b v m k;
          log_lawful = log_lawful (Did M) (truth M) (Does M LW p s) (skeleton p) 0 [] [] r.0 true h r.1 tt;
          walks = subst (λ ss. WalksAlong (FollowsIn (skeleton p) at_end) (first_of (skeleton p) at_end).0 ss true exit) st (walks (Did M) (truth M) (Does M LW p s) (skeleton p) 0 [] [] r.0 true h r.1 at_end);
          how = inl (refl, (h, l, refl, omega (arith, r.2)));
        }
    facts_of (stops place_of why h l) r =
        let is = items (Did M) (truth M) (Does M LW p s) (skeleton p) 0 [] [] r.0 false h r.1 in
        let st = steps_of_items (Did M) (truth M) (Does M LW p s) (skeleton p) 0 [] [] r.0 false h r.1 in
        record {
          over = false;
          stop = where_stopped (Did M) (truth M) (Does M LW p s) (skeleton p) 0 [] [] r.0 false h r.1;
          is = is;
          log = log_of_items (Did M) (truth M) (Does M LW p s) (skeleton p) 0 [] [] r.0 false h r.1;
          steps_ascend = subst (Ascending (ComesBefore (skeleton p) 0)) st (steps_ascend (Did M) (truth M) (Does M LW p s) (skeleton p) 0 [] [] r.0 false h di r.1);
          caused = subst (AllByRecursion (HasCause (Did M) (truth M) (Does M LW p s) (skeleton p) 0 [] is)) st (has_cause (Did M) (truth M) (Does M LW p s) (skeleton p) 0 [] [] r.0 false h r.1);
          met_top = λ a t. top_met (Did M) (truth M) (Does M LW p s) (skeleton p) 0 [] [] r.0 false h di r.1 a t;
          met_called = λ a b v m k. called_met (Did M) (truth M) (Does M LW p s) (skeleton p) 0 [] [] r.0 false h di r.1 a b v m k;
          log_lawful = log_lawful (Did M) (truth M) (Does M LW p s) (skeleton p) 0 [] [] r.0 false h r.1 tt;
          walks = subst (λ ss. WalksAlong (FollowsIn (skeleton p) at_end) (first_of (skeleton p) at_end).0 ss false exit) st (walks (Did M) (truth M) (Does M LW p s) (skeleton p) 0 [] [] r.0 false h r.1 at_end);
          how = inr (refl, (why, h, l, ap (λ z. stops z why h l) (sym r.2), subst (λ (a : Place). StopsFor M LW p s a why h l) (sym r.2) r.3, spent_from_zero p s why (length h + l) n r.4));
        }

    pub facts : RunFacts M LW p s n (trace M s p [] [] n)
    facts = facts_of (trace M s p [] [] n) (course_has_run M LW p s p (λ t c h. h) [] [] n)

  pub instances_are : (p : Body) (s : M.State) (n : ℕ) (tr : Course M) (f : RunFacts M LW p s n tr) → reverse_aux (log_of M tr) [] ≡ f.is
  instances_are p s n tr f = same_log f.is (log_of M tr) f.log

  -- due, by the standing of parts and by the structure
  abbrev pub HasCauseAtTop : Body → List (Instance M) → Place → Type 0
  HasCauseAtTop p is a = IsFirstOnTop (skeleton p) 0 [] a ⊎ ((b : Place) × (v : Did M) × Among (b, v) is × IsCalledBy (skeleton p) [] a b (truth M v))

pub none_outside : (B : Skeleton) → ParentOutside None B
none_outside B w y e i = absurd cc

module _ (M : Meaning) (LW : HasLaws M) where
  pub cause_of_due : (p : Body) → Distinct (skeleton p) → (is : List (Instance M)) → ((i : Instance M) → Among i is → IsPlaceUnder (skeleton p) [] i.0) → (a : Place) → IsDue M p is a → HasCauseAtTop M LW p is a
  cause_of_due p di is sp a (r, h, inl t) = inl (first_of_standing p [] [] None a r h (none_outside (skeleton p)) t.0 t.1)
  cause_of_due p di is sp a (r, h, inr (i, c, k)) =
      let m = among_contains i is c in
      inr (i.0, i.1, m, called_of_standing p [] [] None a i.0 (truth M i.1) r di (none_outside (skeleton p)) h (sp i m) k)

  pub due_of_cause : (p : Body) (is : List (Instance M)) (a : Place) → HasCauseAtTop M LW p is a → IsDue M p is a
  due_of_cause p is a (inl t) = let g = standing_of_first p [] [] None a t in (g.0, g.1, inl (g.2, g.3))
  due_of_cause p is a (inr (b, v, m, k)) = let g = standing_of_called p [] [] None a b (truth M v) k in (g.0, g.1, inr ((b, v), contains_among (b, v) is m, g.2))

  pub caused_place : (p : Body) (is : List (Instance M)) (a : Place) → HasCauseAtTop M LW p is a → IsPlaceUnder (skeleton p) [] a
  caused_place p is a (inl t) = first_is_place (skeleton p) 0 [] a t
  caused_place p is a (inr (b, v, m, k)) = (called_is_place (skeleton p) [] a b (truth M v) k).0

  pub each_first : (P : Place → Type 0) (zs : List Place) (i : Instance M) (is : List (Instance M)) → AllByRecursion P (places_of is ++ zs) → Among i is → P i.0
  each_first P zs i _ e (here {ms = ms}) = e.0
  each_first P zs i _ e (there {n = n} {ms = ms} h) = each_first P zs i ms e.1 h

  pub item_caused : (p : Body) (s : M.State) (n : ℕ) (tr : Course M) (f : RunFacts M LW p s n tr) (i : Instance M) → Among i f.is → HasCauseAtTop M LW p f.is i.0
  item_caused p s n tr f i m = each_first (HasCauseAtTop M LW p f.is) (stop_if f.over f.stop) i f.is f.caused m

  pub item_place : (p : Body) (s : M.State) (n : ℕ) (tr : Course M) (f : RunFacts M LW p s n tr) (i : Instance M) → Among i f.is → IsPlaceUnder (skeleton p) [] i.0
  item_place p s n tr f i m = caused_place p f.is i.0 (item_caused p s n tr f i m)

  pub met_of : (p : Body) (s : M.State) (n : ℕ) (tr : Course M) (f : RunFacts M LW p s n tr) (a : Place) → HasCauseAtTop M LW p f.is a → IsMet (Did M) (truth M) (Does M LW p s) (skeleton p) [] f.is f.over f.stop a
  met_of p s n tr f a (inl t) = f.met_top a t
  met_of p s n tr f a (inr (b, v, m, k)) = f.met_called a b v m k
