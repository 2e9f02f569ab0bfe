-- The law of shared slices: what one program does in a slice, the other does too.
use Rattle.hpr_meaning.specs.Any.Meaning.{Meaning, Given, HasLaws}
use Rattle.hpr_syntax.specs.Contents.{UsesIn}
use Rattle.std.proofs.Common.{◌≡◌, ◌↔◌, ℕ, ◌<◌, ◌≤◌, true, false, List, [], ◌∷◌, ◌⊎◌, Option, Some, None, length, Contains, refl, ap, sym, subst, ◌∙◌, inl, inr, arith, Ok, Err, map}
use Rattle.hpr_terms.specs.declared.tag.Tag.{Tag}
use Rattle.hpr_syntax.specs.declared.rows.Content.{Content}
use Rattle.hpr_syntax.specs.Tree.{Tree}
use Rattle.hpr_syntax.specs.Shape.{IsProgram}
use Rattle.hpr_meaning.specs.Any.Run.{FinalValues, Outcome, ends, faults, more, run, outcome, final_values}
use Rattle.hpr_syntax.specs.Skeleton.{Distinct, skeleton, at, exit}
use Rattle.hpr_syntax.specs.Pairs.{first_of, FollowsIn}
use Rattle.hpr_syntax.specs.Nests.{Says}
use Rattle.hpr_paths.specs.Times.{Place, IsBefore}
use Rattle.hpr_meaning.specs.Any.Instances.{Instance, reads_of, state_after, definer, stops, trace, log_of, instances, read_of, after_of, names_of}
use Rattle.hpr_graph.specs.declared.vertex.Vertex.{Vertex}
use Rattle.hpr_graph.specs.declared.vertex.Vertex.TheVariants.{Part, Final}
use Rattle.hpr_graph.specs.Graphs.{Same}
use Rattle.hpr_graph.specs.Slices.{ReachesOne, slice_of}
use Rattle.hpr_meaning.proofs.NamesInOrder.{names_used}
use Rattle.hpr_meaning.proofs.Items.{Assigns, Spot, spot_of, log_before, log_before_end, origin_none, origin_last, item_of_among, among_of_item, path_to_end}
use Rattle.hpr_syntax.specs.Paths.{DefinesAt}
use Rattle.hpr_graph.specs.ProgramGraph.{HasFlow, graph_of}
use Rattle.hpr_meaning.specs.Any.OrderLaw.{vertex_of}
use Rattle.hpr_meaning.specs.Any.SliceLaw.{SharesSlice}
use Rattle.hpr_paths.proofs.Among.{Among, here, there, among_cons, among_none, among_contains, contains_among, no_both}
use Rattle.hpr_paths.proofs.Says.{says_one}
use Rattle.hpr_meaning.proofs.FlowWays.{assigns_at}
use Rattle.hpr_meaning.proofs.Executed.{Does, StopsFor}
use Rattle.hpr_meaning.proofs.Timely.{run_of_course, ends_over}
use Rattle.hpr_paths.proofs.Different.{distinct_program}
use Rattle.hpr_meaning.proofs.RunFacts.{Ending, instances_are}
use Rattle.hpr_paths.proofs.Programs.{at_end}
use Rattle.hpr_meaning.proofs.FlowPaths.{flow_of}
use Rattle.hpr_meaning.proofs.RunRecords.{language, vertex_at, stop_item, nth_step, step_given, step_says, at_stop, run_record, known}
use Rattle.hpr_meaning.proofs.SameSlices.{InBoth, both_of_first, both_of_second, shares, flow_to, use_before_to}
use Rattle.hpr_graph.proofs.Laws.{same_turned}
use Rattle.hpr_meaning.proofs.TwoRuns.{Shares, NoneDefines, SameOrigin, shared, same_final_value}

module _ (M : Meaning) (LW : HasLaws M) where
  -- reads by what is used
  reads_by : (s : M.State) (g h : List (Instance M)) (names : List (List ℕ)) → ((x : List ℕ) → Among x names → read_of M s g x ≡ read_of M s h x) → map (read_of M s g) names ≡ map (read_of M s h) names
  reads_by s g h [] same = refl
  reads_by s g h (x ∷ names) same = let first = same x here in let rest = reads_by s g h names (λ y m. same y (there m)) in (λ i. first i ∷ rest i)

  same_reads : (c : Content) (s : M.State) (g h : List (Instance M)) → ((x : List ℕ) → UsesIn c x → (M.get (state_after M s g) x ≡ M.get (state_after M s h) x) × (definer M x g ≡ definer M x h))
      → reads_of M c s g ≡ reads_of M c s h
  same_reads c s g h same = reads_by s g h (names_of c) (λ x m. let a = same x ((names_used c x).0 (contains_among x (names_of c) m)) in (λ i. record { name = x; value = a.0 i; origin = a.1 i }))

  module _ (p q : Tree) (s : M.State) (n m : ℕ) (dp : Distinct (skeleton p.body)) (dq : Distinct (skeleton q.body)) (S : Vertex → Type 0)
      (same : Same (slice_of (graph_of p) S) (slice_of (graph_of q) S)) (is_over : (known M LW p s n dp).over ≡ true) where
    runs_share : Shares (language M LW s) (run_record M LW p s n dp) (run_record M LW q s m dq) (InBoth p q S)
    runs_share = shares M LW p q s n m dp dq S same (λ e. no_both is_over e)

    -- one origin: the same value and the same step
    same_definer : (x : List ℕ) (i k : ℕ) → i ≤ length (known M LW p s n dp).is → k ≤ length (known M LW q s m dq).is → SameOrigin (run_record M LW p s n dp) (run_record M LW q s m dq) x i k
        → definer M x (log_before M LW (known M LW q s m dq).is [] k) ≡ definer M x (log_before M LW (known M LW p s n dp).is [] i)
    same_definer x i k li lk (inl h) =
        origin_none M LW s (stop_item M LW q s m dq) x k (known M LW q s m dq).is [] h.1 ∙ sym (origin_none M LW s (stop_item M LW p s n dp) x i (known M LW p s n dp).is [] h.0)
    same_definer x i k li lk (inr (a, b, la, lb, da, db, na, nb, e, v)) =
        origin_last M LW s (stop_item M LW q s m dq) x b k (known M LW q s m dq).is [] lk lb db nb
        ∙ (ap (λ z. Some z) (sym e) ∙ sym (origin_last M LW s (stop_item M LW p s n dp) x a i (known M LW p s n dp).is [] li la da na))

    same_value : (x : List ℕ) (i k : ℕ) → i ≤ length (known M LW p s n dp).is → k ≤ length (known M LW q s m dq).is → SameOrigin (run_record M LW p s n dp) (run_record M LW q s m dq) x i k
        → M.get (state_after M s (log_before M LW (known M LW q s m dq).is [] k)) x ≡ M.get (state_after M s (log_before M LW (known M LW p s n dp).is [] i)) x
    same_value x i k li lk (inl h) = (run_record M LW q s m dq).none_defined k x h.1 ∙ sym ((run_record M LW p s n dp).none_defined i x h.0)
    same_value x i k li lk (inr (a, b, la, lb, da, db, na, nb, e, v)) =
        (run_record M LW q s m dq).last_defined k b x lk lb db nb ∙ (sym v ∙ sym ((run_record M LW p s n dp).last_defined i a x li la da na))

    -- a step of q in the slice is an instance of p
    pub item_shared : (k : ℕ) → k < length (known M LW q s m dq).is → InBoth p q S (spot_of M LW (nth_step M LW q s m dq k)) → (i : ℕ) × (i < length (known M LW p s n dp).is) × (nth_step M LW p s n dp i ≡ nth_step M LW q s m dq k)
    item_shared k a b = (h.0, h.1, whole)
      where
        h : (i : ℕ) × (i < length (known M LW p s n dp).is) × (spot_of M LW (nth_step M LW p s n dp i) ≡ spot_of M LW (nth_step M LW q s m dq k))
            × ((x : List ℕ) → UsesIn (nth_step M LW q s m dq k).1.content x → SameOrigin (run_record M LW p s n dp) (run_record M LW q s m dq) x i k)
            × (M.answer (nth_step M LW q s m dq k).1.content (state_after M s (log_before M LW (known M LW q s m dq).is [] k)) ≡ Ok (nth_step M LW p s n dp i).1.gave)
        h = shared (run_record M LW p s n dp) (run_record M LW q s m dq) (InBoth p q S) runs_share k (inl a) b

        gp : Does M LW p.body s (nth_step M LW p s n dp h.0).0.0 (log_before M LW (known M LW p s n dp).is [] h.0) (nth_step M LW p s n dp h.0).1
        gp = step_given M LW p s n dp h.0 h.1

        gq : Does M LW q.body s (nth_step M LW q s m dq k).0.0 (log_before M LW (known M LW q s m dq).is [] k) (nth_step M LW q s m dq k).1
        gq = step_given M LW q s m dq k a

        gave : (nth_step M LW p s n dp h.0).1.gave ≡ (nth_step M LW q s m dq k).1.gave
        gave = (language M LW s).ok_inj _ _ (sym h.4 ∙ gq.2)

        content : (nth_step M LW p s n dp h.0).1.content ≡ (nth_step M LW q s m dq k).1.content
        content = ap (λ (z : Spot). z.1) h.2

        reads : (nth_step M LW p s n dp h.0).1.reads ≡ (nth_step M LW q s m dq k).1.reads
        reads = gp.1 ∙ (ap (λ c. reads_of M c s (log_before M LW (known M LW p s n dp).is [] h.0)) content
            ∙ (same_reads (nth_step M LW q s m dq k).1.content s (log_before M LW (known M LW p s n dp).is [] h.0) (log_before M LW (known M LW q s m dq).is [] k)
            (λ x v. (sym (same_value x h.0 k (omega (arith, h.1)) (omega (arith, a)) (h.3 x v)), sym (same_definer x h.0 k (omega (arith, h.1)) (omega (arith, a)) (h.3 x v))))
            ∙ sym gq.1))

        number : (nth_step M LW p s n dp h.0).1.number ≡ (nth_step M LW q s m dq k).1.number
        number = gp.3 ∙ (ap (λ c. M.shown c (state_after M s (log_before M LW (known M LW p s n dp).is [] h.0))) content
            ∙ (LW.shown_by_uses (nth_step M LW q s m dq k).1.content (state_after M s (log_before M LW (known M LW p s n dp).is [] h.0)) (state_after M s (log_before M LW (known M LW q s m dq).is [] k))
            (λ x v. sym (same_value x h.0 k (omega (arith, h.1)) (omega (arith, a)) (h.3 x v)))
            ∙ sym gq.3))

        whole : nth_step M LW p s n dp h.0 ≡ nth_step M LW q s m dq k
        whole = λ j. ((h.2 j).0, record { content = content j; reads = reads j; gave = gave j; number = number j })

    pub found_in_first : (i : Instance M) → Contains (instances M q s m) i → (slice_of (graph_of p) S).vertex (vertex_of M i) → Contains (instances M p s n) i
    found_in_first i c v =
        let is_q = instances_are M LW q.body s m _ (known M LW q s m dq) in
        let is_p = instances_are M LW p.body s n _ (known M LW p s n dp) in
        let k = item_of_among M LW (stop_item M LW q s m dq) i (known M LW q s m dq).is (among_contains i (known M LW q s m dq).is (subst (λ l. Contains l i) is_q c)) in
        let b = subst (λ (y : Instance M). InBoth p q S (spot_of M LW y)) (sym k.2) (both_of_first M LW p q s n m dp dq S same (spot_of M LW i) v.0 v.1) in
        let g = item_shared k.0 k.1 b in
        subst (λ l. Contains l i) (sym is_p) (contains_among i (known M LW p s n dp).is (subst (λ y. Among y (known M LW p s n dp).is) (g.2 ∙ k.2) (among_of_item M LW (stop_item M LW p s n dp) g.0 (known M LW p s n dp).is g.1)))

    -- where q stops in the slice, it is no fault
    pub stop_shared : (known M LW q s m dq).over ≡ false → InBoth p q S (spot_of M LW (nth_step M LW q s m dq (length (known M LW q s m dq).is)))
        → (v : M.Value) × (i : ℕ) × (i < length (known M LW p s n dp).is) × (spot_of M LW (nth_step M LW p s n dp i) ≡ spot_of M LW (nth_step M LW q s m dq (length (known M LW q s m dq).is)))
        × (M.answer (nth_step M LW q s m dq (length (known M LW q s m dq).is)).1.content (state_after M s (log_before M LW (known M LW q s m dq).is [] (length (known M LW q s m dq).is))) ≡ Ok v)
    stop_shared e b =
        let h = shared (run_record M LW p s n dp) (run_record M LW q s m dq) (InBoth p q S) runs_share (length (known M LW q s m dq).is) (inr (refl, e)) b in
        ((nth_step M LW p s n dp h.0).1.gave, h.0, h.1, h.2, h.4)

  ok_or_err : (a : Given M) (v : M.Value) (x : M.Fault) → a ≡ Ok v → a ≡ Err x → ⊥
  ok_or_err a v x o e = absurd cc

  -- outcomes
  abbrev IsFaultOf : Outcome M → Tag → M.Fault → Type 0
  IsFaultOf (ends g k) t x = ⊥
  IsFaultOf (faults u y k) t x = (u ≡ t) × (y ≡ x)
  IsFaultOf (more k) t x = ⊥

  abbrev EndsWith : Outcome M → FinalValues M → Type 0
  EndsWith (ends g k) h = g ≡ h
  EndsWith (faults u y k) h = ⊥
  EndsWith (more k) h = ⊥

  module _ (q : Tree) (s : M.State) (m : ℕ) (dq : Distinct (skeleton q.body)) where
    abbrev pub FaultsAt : Tag → M.Fault → Type 0
    FaultsAt t x = ((known M LW q s m dq).over ≡ false) × ((known M LW q s m dq).stop.0 ≡ t) × ((c : Content) × Says q.body t c
        × (M.answer c (state_after M s (log_before M LW (known M LW q s m dq).is [] (length (known M LW q s m dq).is))) ≡ Err x))

    abbrev pub final_state : M.State
    final_state = state_after M s (log_before M LW (known M LW q s m dq).is [] (length (known M LW q s m dq).is))

    whole_log : (log : List (Instance M)) → log_of M (trace M s q.body [] [] m) ≡ log → log ≡ log_before M LW (known M LW q s m dq).is [] (length (known M LW q s m dq).is)
    whole_log log e = sym e ∙ ((known M LW q s m dq).log ∙ sym (log_before_end M LW (known M LW q s m dq).is []))

    faults_by : (t : Tag) (x : M.Fault) (why : Option M.Fault) (log : List (Instance M)) (left : ℕ) → (known M LW q s m dq).over ≡ false → trace M s q.body [] [] m ≡ stops (known M LW q s m dq).stop why log left
        → StopsFor M LW q.body s (known M LW q s m dq).stop why log left → IsFaultOf (outcome M q.finals m (after_of M s (stops (known M LW q s m dq).stop why log left))) t x → FaultsAt t x
    faults_by t x None log left a e w o = absurd o
    faults_by t x (Some y) log left a e w o =
        let l = whole_log log (ap (log_of M) e) in (
          a,
          o.0,
          (
            w.0,
            subst (λ v. Says q.body v w.0) o.0 w.1,
            subst (λ g. M.answer w.0 (state_after M s g) ≡ Err x) l (subst (λ z. M.answer w.0 (state_after M s log) ≡ Err z) o.1 w.2),
          ),
        )

    pub faults_at : (t : Tag) (x : M.Fault) (steps : ℕ) → run M q s m ≡ faults t x steps → FaultsAt t x
    faults_at t x steps e = go (known M LW q s m dq).how
      where
        is : IsFaultOf (outcome M q.finals m (after_of M s (trace M s q.body [] [] m))) t x
        is = subst (λ o. IsFaultOf o t x) (sym e ∙ sym (run_of_course M LW q s m)) (refl, refl)

        go : Ending M LW q.body s m (trace M s q.body [] [] m) (known M LW q s m dq).over (known M LW q s m dq).stop → FaultsAt t x
        go (inl (a, (log, left, b, c))) = absurd (subst (λ tr. IsFaultOf (outcome M q.finals m (after_of M s tr)) t x) b is)
        go (inr (a, (why, log, left, b, w, c))) = faults_by t x why log left a b w (subst (λ tr. IsFaultOf (outcome M q.finals m (after_of M s tr)) t x) b is)

    finals_by : (finals : FinalValues M) → EndsWith (outcome M q.finals m (after_of M s (trace M s q.body [] [] m))) finals
        → Ending M LW q.body s m (trace M s q.body [] [] m) (known M LW q s m dq).over (known M LW q s m dq).stop
        → finals ≡ final_values M q.finals (state_after M s (log_before M LW (known M LW q s m dq).is [] (length (known M LW q s m dq).is)))
    finals_by finals h (inl (a, (log, left, b, c))) =
        sym (subst (λ tr. EndsWith (outcome M q.finals m (after_of M s tr)) finals) b h) ∙ ap (λ g. final_values M q.finals (state_after M s g)) (whole_log log (ap (log_of M) b))
    finals_by finals h (inr (a, (None, log, left, b, w, c))) = absurd (subst (λ tr. EndsWith (outcome M q.finals m (after_of M s tr)) finals) b h)
    finals_by finals h (inr (a, (Some y, log, left, b, w, c))) = absurd (subst (λ tr. EndsWith (outcome M q.finals m (after_of M s tr)) finals) b h)

    pub finals_are : (finals : FinalValues M) (steps : ℕ) → run M q s m ≡ ends finals steps → finals ≡ final_values M q.finals (state_after M s (log_before M LW (known M LW q s m dq).is [] (length (known M LW q s m dq).is)))
    finals_are finals steps e = finals_by finals (subst (λ o. EndsWith o finals) (sym e ∙ sym (run_of_course M LW q s m)) refl) (known M LW q s m dq).how

    -- the last definition of a final name flows to it
    pub flows_to_final : (x : List ℕ) → Contains q.finals x → (known M LW q s m dq).over ≡ true → (i : ℕ) → i < length (known M LW q s m dq).is → Assigns (nth_step M LW q s m dq i).1.content x
        → ((j : ℕ) → i < j → j < length (known M LW q s m dq).is → ¬ Assigns (nth_step M LW q s m dq j).1.content x) → HasFlow q x (vertex_at (spot_of M LW (nth_step M LW q s m dq i))) (Final x)
    flows_to_final x c e i a d n =
        let g = path_to_end M LW (FollowsIn (skeleton q.body) at_end) (DefinesAt q.body x) (stop_item M LW q s m dq) (known M LW q s m dq).over exit e i (known M LW q s m dq).is (first_of (skeleton q.body) at_end).0 (known M LW q s m dq).walks a
        (λ j b k y. n j b k (defines_here j k y)) in
        flow_of q x (at (nth_step M LW q s m dq i).0.0) exit (vertex_at (spot_of M LW (nth_step M LW q s m dq i))) (Final x) g.0
        (d, step_says M LW q s m dq i (inl a), refl) (refl, c, refl) g.1
      where
        defines_here : (j : ℕ) → j < length (known M LW q s m dq).is → DefinesAt q.body x (at (nth_step M LW q s m dq j).0.0) → Assigns (nth_step M LW q s m dq j).1.content x
        defines_here j k y = assigns_at q.body dq x (nth_step M LW q s m dq j).0.0 (nth_step M LW q s m dq j).1.content (step_says M LW q s m dq j (inl k)) y

  -- final values
  pub value_in_finals : (names : List (List ℕ)) (st : M.State) (x : List ℕ) (v : M.Value) → Among (x, v) (final_values M names st) → v ≡ M.get st x
  value_in_finals [] st x v h = absurd (among_none (x, v) h)
  value_in_finals (y ∷ ys) st x v h = go (among_cons h) (λ g. value_in_finals ys st x v g)
    where
      go : (◌≡◌ {A = List ℕ × M.Value} (y, M.get st y) (x, v)) ⊎ Among (x, v) (final_values M ys st) → (Among (x, v) (final_values M ys st) → v ≡ M.get st x) → v ≡ M.get st x
      go (inl e) r = sym (ap (λ (z : List ℕ × M.Value). z.1) e) ∙ ap (λ (z : List ℕ × M.Value). M.get st z.0) e
      go (inr g) r = r g

  pub in_finals : (x : List ℕ) (st : M.State) (names : List (List ℕ)) → Among x names → Among (x, M.get st x) (final_values M names st)
  in_finals x st _ (here {ms = ms}) = here
  in_finals x st _ (there {n = n} {ms = ms} h) = there (in_finals x st ms h)

  pub name_in_finals : (st : M.State) (x : List ℕ) (v : M.Value) (names : List (List ℕ)) → Among (x, v) (final_values M names st) → Among x names
  name_in_finals st x v [] h = absurd (among_none (x, v) h)
  name_in_finals st x v (y ∷ ys) h = go (among_cons h) (λ g. name_in_finals st x v ys g)
    where
      go : (◌≡◌ {A = List ℕ × M.Value} (y, M.get st y) (x, v)) ⊎ Among (x, v) (final_values M ys st) → (Among (x, v) (final_values M ys st) → Among x ys) → Among x (y ∷ ys)
      go (inl e) r = subst (λ (z : List ℕ). Among z (y ∷ ys)) (ap (λ (z : List ℕ × M.Value). z.0) e) here
      go (inr g) r = there (r g)

  pub final_name : (p : Tree) (s : M.State) (n : ℕ) (dp : Distinct (skeleton p.body)) (finals : FinalValues M) (steps : ℕ) → run M p s n ≡ ends finals steps
      → (x : List ℕ) (v : M.Value) → Contains finals (x, v) → Contains p.finals x
  final_name p s n dp finals steps e x v c =
      let l = finals_are p s n dp finals steps e in
      contains_among x p.finals (name_in_finals _ x v p.finals (among_contains (x, v) _ (subst (λ y. Contains y (x, v)) l c)))

  module _ (p q : Tree) (s : M.State) (n m : ℕ) (dp : Distinct (skeleton p.body)) (dq : Distinct (skeleton q.body)) (S : Vertex → Type 0)
      (same : Same (slice_of (graph_of p) S) (slice_of (graph_of q) S)) where
    pub faults_outside : (known M LW p s n dp).over ≡ true → (t : Tag) (c : Content) (x : M.Fault) (steps : ℕ) → run M q s m ≡ faults t x steps → Says q.body t c → ¬ (slice_of (graph_of p) S).vertex (Part t c)
    faults_outside is_over t c x steps e sc v = differ w.4
      where
        b : FaultsAt q s m dq t x
        b = faults_at q s m dq t x steps e

        k : ℕ
        k = length (known M LW q s m dq).is

        place_is : (nth_step M LW q s m dq k).0 ≡ (known M LW q s m dq).stop
        place_is = at_stop M LW q s m dq k refl

        says : Says q.body t (nth_step M LW q s m dq k).1.content
        says = subst (λ z. Says q.body z (nth_step M LW q s m dq k).1.content) (ap (λ (y : Place). y.0) place_is ∙ b.1) (step_says M LW q s m dq k (inr (refl, b.0)))

        ec : c ≡ (nth_step M LW q s m dq k).1.content
        ec = says_one q.body dq t c (nth_step M LW q s m dq k).1.content sc says

        ev : Part t c ≡ vertex_at (spot_of M LW (nth_step M LW q s m dq k))
        ev = λ i. Part (sym (ap (λ (y : Place). y.0) place_is ∙ b.1) i) (ec i)

        vq : (graph_of p).vertex (vertex_at (spot_of M LW (nth_step M LW q s m dq k))) × ReachesOne (graph_of p) S (vertex_at (spot_of M LW (nth_step M LW q s m dq k)))
        vq = subst (λ z. (slice_of (graph_of p) S).vertex z) ev v

        w : (v : M.Value) × (i : ℕ) × (i < length (known M LW p s n dp).is) × (spot_of M LW (nth_step M LW p s n dp i) ≡ spot_of M LW (nth_step M LW q s m dq k))
            × (M.answer (nth_step M LW q s m dq k).1.content (state_after M s (log_before M LW (known M LW q s m dq).is [] k)) ≡ Ok v)
        w = stop_shared p q s n m dp dq S same is_over b.0 (both_of_first M LW p q s n m dp dq S same (spot_of M LW (nth_step M LW q s m dq k)) vq.0 vq.1)

        err : M.answer (nth_step M LW q s m dq k).1.content (state_after M s (log_before M LW (known M LW q s m dq).is [] k)) ≡ Err x
        err = subst (λ z. M.answer z (state_after M s (log_before M LW (known M LW q s m dq).is [] k)) ≡ Err x) (says_one q.body dq t b.2.0 (nth_step M LW q s m dq k).1.content b.2.1 says) b.2.2

        differ : M.answer (nth_step M LW q s m dq k).1.content (state_after M s (log_before M LW (known M LW q s m dq).is [] k)) ≡ Ok w.0 → ⊥
        differ o = ok_or_err _ w.0 x o err

    pub same_final_value_of : (known M LW p s n dp).over ≡ true → (known M LW q s m dq).over ≡ true → (x : List ℕ) → (slice_of (graph_of p) S).vertex (Final x)
        → M.get (state_after M s (log_before M LW (known M LW p s n dp).is [] (length (known M LW p s n dp).is))) x ≡ M.get (state_after M s (log_before M LW (known M LW q s m dq).is [] (length (known M LW q s m dq).is))) x
    same_final_value_of ep eq x v =
        same_final_value (run_record M LW p s n dp) (run_record M LW q s m dq) (InBoth p q S) (InBoth q p S)
        (shares M LW p q s n m dp dq S same (λ e. no_both ep e)) (shares M LW q p s m n dq dp S (same_turned (slice_of (graph_of p) S) (slice_of (graph_of q) S) same) (λ e. no_both eq e))
        (λ a i. (i.1, i.0)) x fp fq m2
      where
        turned_back : Same (slice_of (graph_of q) S) (slice_of (graph_of p) S)
        turned_back = same_turned (slice_of (graph_of p) S) (slice_of (graph_of q) S) same

        vq : (slice_of (graph_of q) S).vertex (Final x)
        vq = (same.0 (Final x)).0 v

        fp : (i : ℕ) → i < length (known M LW p s n dp).is → Assigns (nth_step M LW p s n dp i).1.content x → NoneDefines (run_record M LW p s n dp) x i (length (known M LW p s n dp).is) → InBoth p q S (spot_of M LW (nth_step M LW p s n dp i))
        fp i a d n' = both_of_first M LW p q s n m dp dq S same (spot_of M LW (nth_step M LW p s n dp i)) (step_says M LW p s n dp i (inl a))
            (flow_to q p dq dp S same x (vertex_at (spot_of M LW (nth_step M LW p s n dp i))) (Final x) (flows_to_final p s n dp x v.0 ep i a d n') v.1).1

        fq : (i : ℕ) → i < length (known M LW q s m dq).is → Assigns (nth_step M LW q s m dq i).1.content x → NoneDefines (run_record M LW q s m dq) x i (length (known M LW q s m dq).is) → InBoth p q S (spot_of M LW (nth_step M LW q s m dq i))
        fq i a d n' = both_of_second M LW p q s n m dp dq S same (spot_of M LW (nth_step M LW q s m dq i)) (step_says M LW q s m dq i (inl a))
            (flow_to p q dp dq S turned_back x (vertex_at (spot_of M LW (nth_step M LW q s m dq i))) (Final x) (flows_to_final q s m dq x vq.0 eq i a d n') vq.1).1

        m2 : (i j k : ℕ) → i < length (known M LW p s n dp).is → j < length (known M LW p s n dp).is → k < length (known M LW q s m dq).is → spot_of M LW (nth_step M LW p s n dp i) ≡ spot_of M LW (nth_step M LW q s m dq k)
            → Assigns (nth_step M LW q s m dq k).1.content x → NoneDefines (run_record M LW q s m dq) x k (length (known M LW q s m dq).is) → Assigns (nth_step M LW p s n dp j).1.content x → NoneDefines (run_record M LW p s n dp) x j (length (known M LW p s n dp).is)
            → IsBefore p.body (nth_step M LW p s n dp i).0 (nth_step M LW p s n dp j).0 → IsBefore q.body (nth_step M LW p s n dp i).0 (nth_step M LW p s n dp j).0
        m2 i j k a b c e dk nk dj nj h =
            let fk = (flow_to p q dp dq S turned_back x (vertex_at (spot_of M LW (nth_step M LW q s m dq k))) (Final x) (flows_to_final q s m dq x vq.0 eq k c dk nk) vq.1).0 in
            let fi = subst (λ (z : Spot). HasFlow p x (vertex_at z) (Final x)) (sym e) fk in
            use_before_to q p dq dp S same x (Final x) (spot_of M LW (nth_step M LW p s n dp i)) (spot_of M LW (nth_step M LW p s n dp j)) v.1 fi (flows_to_final p s n dp x v.0 ep j b dj nj) h

    pub same_finals : (finals finals' : FinalValues M) (steps steps' : ℕ) → run M p s n ≡ ends finals steps → run M q s m ≡ ends finals' steps'
        → (x : List ℕ) (v : M.Value) → (slice_of (graph_of p) S).vertex (Final x) → Contains finals (x, v) ↔ Contains finals' (x, v)
    same_finals finals finals' steps steps' ep eq x v sv = (forth, turned_back)
      where
        sp : M.State
        sp = state_after M s (log_before M LW (known M LW p s n dp).is [] (length (known M LW p s n dp).is))

        sq : M.State
        sq = state_after M s (log_before M LW (known M LW q s m dq).is [] (length (known M LW q s m dq).is))

        value_same : M.get sp x ≡ M.get sq x
        value_same = same_final_value_of (ends_over M LW p s n steps finals (known M LW p s n dp) ep) (ends_over M LW q s m steps' finals' (known M LW q s m dq) eq) x sv

        lp : finals ≡ final_values M p.finals sp
        lp = finals_are p s n dp finals steps ep

        lq : finals' ≡ final_values M q.finals sq
        lq = finals_are q s m dq finals' steps' eq

        forth : Contains finals (x, v) → Contains finals' (x, v)
        forth c =
            let e = value_in_finals p.finals sp x v (among_contains (x, v) (final_values M p.finals sp) (subst (λ l. Contains l (x, v)) lp c)) in
            let g = contains_among (x, M.get sq x) (final_values M q.finals sq) (in_finals x sq q.finals (among_contains x q.finals ((same.0 (Final x)).0 sv).0)) in
            subst (λ l. Contains l (x, v)) (sym lq) (subst (λ z. Contains (final_values M q.finals sq) (x, z)) (sym (e ∙ value_same)) g)

        turned_back : Contains finals' (x, v) → Contains finals (x, v)
        turned_back c =
            let e = value_in_finals q.finals sq x v (among_contains (x, v) (final_values M q.finals sq) (subst (λ l. Contains l (x, v)) lq c)) in
            let g = contains_among (x, M.get sp x) (final_values M p.finals sp) (in_finals x sp p.finals (among_contains x p.finals sv.0)) in
            subst (λ l. Contains l (x, v)) (sym lp) (subst (λ z. Contains (final_values M p.finals sp) (x, z)) (sym (e ∙ sym value_same)) g)

  pub slice_shared : (p q : Tree) (S : Vertex → Type 0) (s : M.State) (n m steps : ℕ) (finals : FinalValues M) → IsProgram p → IsProgram q
      → Same (slice_of (graph_of p) S) (slice_of (graph_of q) S) → run M p s n ≡ ends finals steps → SharesSlice M p q S s n m
  slice_shared p q S s n m steps finals ip iq same e = record {
    done_alike = found_in_first p q s n m dp dq S same is_over;
    no_fault = λ t c x k r sc. faults_outside p q s n m dp dq S same is_over t c x k r sc;
    done_by_both = λ finals' k r i c v. found_in_first q p s m n dq dp S (same_turned (slice_of (graph_of p) S) (slice_of (graph_of q) S) same) (ends_over M LW q s m k finals' (known M LW q s m dq) r) i c ((same.0 (vertex_of M i)).0 v);
    same_finals = λ g g' k k' a b x v w. same_finals p q s n m dp dq S same g g' k k' a b x v w;
  }
    where
      dp : Distinct (skeleton p.body)
      dp = distinct_program p ip

      dq : Distinct (skeleton q.body)
      dq = distinct_program q iq

      is_over : (known M LW p s n dp).over ≡ true
      is_over = ends_over M LW p s n steps finals (known M LW p s n dp) e
