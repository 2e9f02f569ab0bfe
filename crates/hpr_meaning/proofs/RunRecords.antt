-- What is known of a program's run, by the numbers of its steps, as the record of TwoRuns.
use Rattle.hpr_meaning.specs.Any.Meaning.{Meaning, Given, HasLaws}
use Rattle.std.proofs.Common.{◌≡◌, ℕ, ◌<◌, Bool, true, false, List, [], ◌∷◌, ◌⊎◌, None, length, refl, ap, sym, subst, ◌∙◌, inl, inr, arith, Ok}
use Rattle.hpr_terms.specs.declared.expr.Expr.TheVariants.{Num}
use Rattle.hpr_syntax.specs.declared.rows.Content.{Content}
use Rattle.hpr_syntax.specs.declared.rows.Content.TheVariants.{If}
use Rattle.hpr_syntax.specs.Contents.{UsesIn}
use Rattle.hpr_syntax.specs.Body.{Body}
use Rattle.hpr_syntax.specs.Tree.{Tree}
use Rattle.hpr_terms.proofs.Facts.{compared}
use Rattle.hpr_syntax.specs.Skeleton.{at, exit, Distinct, skeleton}
use Rattle.hpr_syntax.specs.Pairs.{first_of, FollowsIn}
use Rattle.hpr_syntax.specs.Nests.{Standing, StandsAsIn, Says}
use Rattle.hpr_paths.specs.Times.{Place, ComesBefore, IsBefore}
use Rattle.hpr_meaning.specs.Any.Instances.{Did, Instance, truth, state_after, trace}
use Rattle.hpr_meaning.specs.Due.{Calls, first_turns}
use Rattle.hpr_graph.specs.declared.vertex.Vertex.{Vertex}
use Rattle.hpr_meaning.proofs.Items.{Assigns, Spot, spot_of, item_at, log_before, assigns?, value_none, value_last, item_given, item_of_among, among_of_item, IsStepIn, each_step, steps_ascend_at, path_between_steps}
use Rattle.hpr_syntax.specs.Paths.{DefinesAt}
use Rattle.hpr_graph.specs.ProgramGraph.{HasFlow}
use Rattle.hpr_paths.proofs.Among.{Among, no_both}
use Rattle.hpr_paths.proofs.Causes.{IsCalledBy}
use Rattle.hpr_paths.proofs.Listed.{IsMet}
use Rattle.hpr_paths.proofs.TimeOrder.{never_before_itself, before_trans, cause_before}
use Rattle.hpr_paths.proofs.PlacesUnder.{IsPlaceUnder, called_is_place}
use Rattle.hpr_meaning.proofs.DueCauses.{standing_of_first, standing_of_called, first_of_standing, called_of_standing}
use Rattle.hpr_meaning.proofs.Chains.{place_has_turns, place_by_turns}
use Rattle.hpr_paths.proofs.Says.{says_of_standing, says_one}
use Rattle.hpr_meaning.proofs.FlowWays.{assigns_at}
use Rattle.hpr_meaning.proofs.Executed.{Does}
use Rattle.hpr_meaning.proofs.RunFacts.{RunFacts, facts, HasCauseAtTop, met_of, none_outside, caused_place}
use Rattle.hpr_paths.proofs.Programs.{at_end}
use Rattle.hpr_paths.proofs.Logs.{IsLawful}
use Rattle.hpr_meaning.proofs.FlowPaths.{flow_of}
use Rattle.hpr_meaning.proofs.TwoRuns.{Language, OneRun}
use Rattle.hpr_graph.specs.declared.vertex.Vertex.TheVariants.{Part}

abbrev pub vertex_at : Spot → Vertex
vertex_at a = Part a.0.0 a.1

-- the rules of due places, for places with what the part says
abbrev pub IsTopSpot : Body → Spot → Type 0
IsTopSpot p a = (r : Standing) × StandsAsIn p a.0.0 r × (r.content ≡ a.1) × (r.parent ≡ None) × (a.0.1 ≡ first_turns r.content [])

abbrev pub HasAllTurns : Body → Place → Type 0
HasAllTurns p a = (r : Standing) × StandsAsIn p a.0 r × (length a.1 ≡ length r.nest)

abbrev pub CallsFor : Body → Spot → Spot → Bool → Type 0
CallsFor p a b t = (r : Standing) × StandsAsIn p a.0.0 r × (r.content ≡ a.1) × Calls r a.0 b.0 t × Says p b.0.0 b.1 × HasAllTurns p b.0

module _ (M : Meaning) (LW : HasLaws M) where
  pub same_ok : (a b : M.Value) → ◌≡◌ {A = Given M} (Ok a) (Ok b) → a ≡ b
  same_ok a b e = cc

  abbrev pub language : M.State → Language
  language s = record {
    Spot = Spot;
    Name = List ℕ;
    Value = M.Value;
    State = M.State;
    Answer = Given M;
    get = M.get;
    ok = λ v. Ok v;
    ok_inj = same_ok;
    truth = M.holds;
    Defines = λ x a. Assigns a.1 x;
    Uses = λ x a. UsesIn a.1 x;
    defines? = λ x a. assigns? a.1 x;
    act = λ a st. M.answer a.1 st;
    act_by_uses = λ a f g h. LW.by_uses a.1 f g h;
    start = s;
  }

module _ (M : Meaning) (LW : HasLaws M) where
  item_behind : (is : List (Instance M)) (d : Instance M) → item_at M LW is d (length is) ≡ d
  item_behind [] d = refl
  item_behind (i ∷ is) d = item_behind is d

pub place_of_turns : (p : Body) (a : Place) → HasAllTurns p a → IsPlaceUnder (skeleton p) [] a
place_of_turns p a h = place_by_turns p [] [] None a h.0 h.1 refl a.1 refl h.2

pub turns_of_place : (p : Body) (a : Place) → IsPlaceUnder (skeleton p) [] a → HasAllTurns p a
turns_of_place p a h = place_has_turns p [] [] None a refl h

module _ (M : Meaning) (LW : HasLaws M) where
  module _ (p : Tree) (s : M.State) (n : ℕ) (di : Distinct (skeleton p.body)) where
    abbrev pub known : RunFacts M LW p.body s n (trace M s p.body [] [] n)
    known = facts M LW p.body s n di

    abbrev pub nothing_done : Did M
    nothing_done = record { content = If (Num 0); reads = []; gave = M.get s []; number = M.shown (If (Num 0)) s }

    -- what stands where the run stopped
    pub stop_says : known.over ≡ false → (c : Content) × Says p.body known.stop.0 c
    stop_says e =
        let g = each_step M LW (HasCauseAtTop M LW p.body known.is) (known.stop, nothing_done) known.over (length known.is) known.is known.caused (inr (refl, e)) in
        let h = turns_of_place p.body known.stop (subst (λ (i : Instance M). IsPlaceUnder (skeleton p.body) [] i.0) (item_behind M LW known.is (known.stop, nothing_done)) (caused_place M LW p.body known.is _ g)) in
        (h.0.content, says_of_standing p.body [] None known.stop.0 h.0 h.1)

    pub stop_did : (b : Bool) → known.over ≡ b → (c : Content) × (known.over ≡ false → Says p.body known.stop.0 c)
    stop_did true e = (If (Num 0), λ g. no_both e g)
    stop_did false e = let g = stop_says e in (g.0, λ x. g.1)

    abbrev pub stop_item : Instance M
    stop_item = (known.stop, record { content = (stop_did known.over refl).0; reads = []; gave = M.get s []; number = M.shown (If (Num 0)) s })

    abbrev pub nth_step : ℕ → Instance M
    nth_step k = item_at M LW known.is stop_item k

    abbrev pub IsStepAt : ℕ → Type 0
    IsStepAt k = IsStepIn M LW known.is known.over k

    pub step_given : (k : ℕ) → k < length known.is → Does M LW p.body s (nth_step k).0.0 (log_before M LW known.is [] k) (nth_step k).1
    step_given k a = item_given M LW (truth M) (Does M LW p.body s) stop_item k known.is [] (subst (λ h. IsLawful (Did M) (truth M) (Does M LW p.body s) h) known.log known.log_lawful) a

    pub step_says : (k : ℕ) → IsStepAt k → Says p.body (nth_step k).0.0 (nth_step k).1.content
    step_says k (inl a) = (step_given k a).0
    step_says k (inr a) =
        subst (λ (i : Instance M). Says p.body i.0.0 i.1.content) (sym (ap (item_at M LW known.is stop_item) a.0 ∙ item_behind M LW known.is stop_item)) ((stop_did known.over refl).1 a.1)

    pub steps_rise : (j k : ℕ) → j < k → IsStepAt k → IsBefore p.body (nth_step j).0 (nth_step k).0
    steps_rise j k a b = steps_ascend_at M LW (ComesBefore (skeleton p.body) 0) stop_item known.over j k known.is known.steps_ascend a b

    pub caused_at : (k : ℕ) → IsStepAt k → HasCauseAtTop M LW p.body known.is (nth_step k).0
    caused_at k a = each_step M LW (HasCauseAtTop M LW p.body known.is) stop_item known.over k known.is known.caused a

    content_standing : (k : ℕ) → IsStepAt k → (r : Standing) → StandsAsIn p.body (nth_step k).0.0 r → r.content ≡ (nth_step k).1.content
    content_standing k a r h = says_one p.body di (nth_step k).0.0 r.content (nth_step k).1.content (says_of_standing p.body [] None (nth_step k).0.0 r h) (step_says k a)

    earlier : (j k : ℕ) → j < length known.is → IsStepAt k → IsBefore p.body (nth_step j).0 (nth_step k).0 → j < k
    earlier j k a b h = go (compared j k)
      where
        go : (j < k) ⊎ ((j ≡ k) ⊎ (k < j)) → j < k
        go (inl x) = x
        go (inr (inl e)) = absurd (never_before_itself (skeleton p.body) 0 di (nth_step k).0 (subst (λ i. IsBefore p.body (nth_step i).0 (nth_step k).0) e h))
        go (inr (inr x)) = absurd (never_before_itself (skeleton p.body) 0 di (nth_step j).0 (before_trans (skeleton p.body) 0 di (nth_step j).0 (nth_step k).0 (nth_step j).0 h (steps_rise k j x (inl a))))

    pub cause_at : (k : ℕ) → IsStepAt k → IsTopSpot p.body (spot_of M LW (nth_step k)) ⊎ ((j : ℕ) × (j < k) × CallsFor p.body (spot_of M LW (nth_step k)) (spot_of M LW (nth_step j)) (truth M (nth_step j).1))
    cause_at k a = go (caused_at k a)
      where
        go : HasCauseAtTop M LW p.body known.is (nth_step k).0 → IsTopSpot p.body (spot_of M LW (nth_step k)) ⊎ ((j : ℕ) × (j < k) × CallsFor p.body (spot_of M LW (nth_step k)) (spot_of M LW (nth_step j)) (truth M (nth_step j).1))
        go (inl t) = let g = standing_of_first p.body [] [] None (nth_step k).0 t in inl (g.0, g.1, content_standing k a g.0 g.1, g.2, g.3)
        go (inr (b, v, m, h)) =
            let i = item_of_among M LW stop_item (b, v) known.is m in
            let h' = subst (λ (y : Instance M). IsCalledBy (skeleton p.body) [] (nth_step k).0 y.0 (truth M y.1)) (sym i.2) h in
            let g = standing_of_called p.body [] [] None (nth_step k).0 (nth_step i.0).0 (truth M (nth_step i.0).1) h' in
            inr (
              i.0,
              earlier i.0 k i.1 a (cause_before (skeleton p.body) [] (nth_step k).0 (nth_step i.0).0 (truth M (nth_step i.0).1) h'),
              (g.0, g.1, content_standing k a g.0 g.1, g.2, step_says i.0 (inl i.1), turns_of_place p.body (nth_step i.0).0 (called_is_place (skeleton p.body) [] (nth_step k).0 (nth_step i.0).0 (truth M (nth_step i.0).1) h').1),
            )

    pub called_spot : (a b : Spot) (t : Bool) → CallsFor p.body a b t → IsCalledBy (skeleton p.body) [] a.0 b.0 t
    called_spot a b t (r, h, e, c, y, l) = called_of_standing p.body [] [] None a.0 b.0 t r di (none_outside (skeleton p.body)) h (place_of_turns p.body b.0 l) c

    abbrev pub IsDueAt : Spot → Type 0
    IsDueAt a = IsTopSpot p.body a ⊎ ((j : ℕ) × (j < length known.is) × CallsFor p.body a (spot_of M LW (nth_step j)) (truth M (nth_step j).1))

    cause_of_due_spot : (a : Spot) → IsDueAt a → HasCauseAtTop M LW p.body known.is a.0
    cause_of_due_spot a (inl t) = inl (first_of_standing p.body [] [] None a.0 t.0 t.1 (none_outside (skeleton p.body)) t.3 t.4)
    cause_of_due_spot a (inr c) = inr ((nth_step c.0).0, (nth_step c.0).1, among_of_item M LW stop_item c.0 known.is c.1, called_spot a (spot_of M LW (nth_step c.0)) (truth M (nth_step c.0).1) c.2)

    due_says : (a : Spot) → IsDueAt a → Says p.body a.0.0 a.1
    due_says a (inl t) = subst (λ c. Says p.body a.0.0 c) t.2 (says_of_standing p.body [] None a.0.0 t.0 t.1)
    due_says a (inr c) = subst (λ y. Says p.body a.0.0 y) c.2.2 (says_of_standing p.body [] None a.0.0 c.2.0 c.2.1)

    found_among : (a : Spot) → IsDueAt a → (v : Did M) × Among (a.0, v) known.is → (i : ℕ) × (i < length known.is) × (spot_of M LW (nth_step i) ≡ a)
    found_among a d (v, m) =
        let i = item_of_among M LW stop_item (a.0, v) known.is m in
        let e = says_one p.body di a.0.0 v.content a.1 (subst (λ (y : Instance M). Says p.body y.0.0 y.1.content) i.2 (step_says i.0 (inl i.1))) (due_says a d) in
        (i.0, i.1, ap (spot_of M LW) i.2 ∙ ap (λ c. (a.0, c)) e)

    pub at_stop : (k : ℕ) → k ≡ length known.is → (nth_step k).0 ≡ known.stop
    at_stop k e = ap (λ (i : Instance M). i.0) (ap (item_at M LW known.is stop_item) e ∙ item_behind M LW known.is stop_item)

    pub listed_before : (a : Spot) (k : ℕ) → IsStepAt k → IsBefore p.body a.0 (nth_step k).0 → IsDueAt a → (i : ℕ) × (i < k) × (spot_of M LW (nth_step i) ≡ a)
    listed_before a k b h d = go (met_of M LW p.body s n _ known a.0 (cause_of_due_spot a d))
      where
        to_stop : IsStepAt k → known.over ≡ false → IsBefore p.body a.0 known.stop
        to_stop (inl x) e = before_trans (skeleton p.body) 0 di a.0 (nth_step k).0 known.stop h
            (subst (λ (y : Place). IsBefore p.body (nth_step k).0 y) (at_stop (length known.is) refl) (steps_rise k (length known.is) x (inr (refl, e))))
        to_stop (inr x) e = subst (λ (y : Place). IsBefore p.body a.0 y) (at_stop k x.0) h

        go : IsMet (Did M) (truth M) (Does M LW p.body s) (skeleton p.body) [] known.is known.over known.stop a.0 → (i : ℕ) × (i < k) × (spot_of M LW (nth_step i) ≡ a)
        go (inl m) = let i = found_among a d m in
            (i.0, earlier i.0 k i.1 b (subst (λ (y : Place). IsBefore p.body y (nth_step k).0) (sym (ap (λ (z : Spot). z.0) i.2)) h), i.2)
        go (inr m) = absurd (m.1 (to_stop b m.0))

    pub listed_at_end : ¬ (known.over ≡ false) → (a : Spot) → IsDueAt a → (i : ℕ) × (i < length known.is) × (spot_of M LW (nth_step i) ≡ a)
    listed_at_end e a d = go (met_of M LW p.body s n _ known a.0 (cause_of_due_spot a d))
      where
        go : IsMet (Did M) (truth M) (Does M LW p.body s) (skeleton p.body) [] known.is known.over known.stop a.0 → (i : ℕ) × (i < length known.is) × (spot_of M LW (nth_step i) ≡ a)
        go (inl m) = found_among a d m
        go (inr m) = absurd (e m.0)

    -- a path is undisturbed where no step between defines
    passes : (x : List ℕ) (i k : ℕ) → IsStepAt k → i < k → ¬ Assigns (nth_step i).1.content x → ¬ DefinesAt p.body x (at (nth_step i).0.0)
    passes x i k b a m d = m (assigns_at p.body di x (nth_step i).0.0 (nth_step i).1.content (step_says i (inl (before_end b))) d)
      where
        before_end : IsStepAt k → i < length known.is
        before_end (inl c) = omega (arith, a, c)
        before_end (inr c) = let e = c.0 in omega (arith, a, e)

    pub flow_at : (k j : ℕ) (x : List ℕ) → IsStepAt k → j < k → Assigns (nth_step j).1.content x → ((i : ℕ) → j < i → i < k → ¬ Assigns (nth_step i).1.content x)
        → UsesIn (nth_step k).1.content x → HasFlow p x (vertex_at (spot_of M LW (nth_step j))) (vertex_at (spot_of M LW (nth_step k)))
    flow_at k j x b a y m u =
        let q = path_between_steps M LW (FollowsIn (skeleton p.body) at_end) (DefinesAt p.body x) stop_item known.over exit j k known.is (first_of (skeleton p.body) at_end).0 known.walks b a (λ i c e. passes x i k b e (m i c e)) in
        flow_of p x (at (nth_step j).0.0) (at (nth_step k).0.0) (vertex_at (spot_of M LW (nth_step j))) (vertex_at (spot_of M LW (nth_step k))) q.0
        (y, step_says j (inl (before_end b)), refl) (u, step_says k b, refl) q.1
      where
        before_end : IsStepAt k → j < length known.is
        before_end (inl c) = omega (arith, a, c)
        before_end (inr c) = let e = c.0 in omega (arith, a, e)

    abbrev pub run_record : OneRun (language M LW s)
    run_record = record {
      before = λ a b. IsBefore p.body a.0 b.0;
      irreflexive = λ a. never_before_itself (skeleton p.body) 0 di a.0;
      transitive = λ a b c. before_trans (skeleton p.body) 0 di a.0 b.0 c.0;
      Top = IsTopSpot p.body;
      Called = CallsFor p.body;
      called_later = λ a b t c. cause_before (skeleton p.body) [] a.0 b.0 t (called_spot a b t c);
      Flow = λ x a b. HasFlow p x (vertex_at a) (vertex_at b);
      count = length known.is;
      Stopped = known.over ≡ false;
      spot = λ k. spot_of M LW (nth_step k);
      gave = λ k. (nth_step k).1.gave;
      state_at = λ k. state_after M s (log_before M LW known.is [] k);
      ascends = steps_rise;
      cause = cause_at;
      listed = listed_before;
      all_at_end = listed_at_end;
      flow = flow_at;
      none_defined = λ k x m. value_none M LW s stop_item x k known.is [] m;
      last_defined = λ k j x l a e m. value_last M LW s stop_item x j k known.is [] l a e m;
      item_gives = λ k a. (step_given k a).2;
    }
