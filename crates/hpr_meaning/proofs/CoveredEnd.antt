-- A program that is covered by others ends where they do: each of its steps is a step of one of them, so it faults nowhere, and it has no
-- more steps than they have together.
use Rattle.hpr_meaning.specs.Any.Meaning.{Meaning, Given, HasLaws}
use Rattle.std.proofs.Common.{◌≡◌, ℕ, zero, suc, ◌<◌, ◌≤◌, ◌+◌, Bool, true, false, List, [], ◌∷◌, ◌++◌, ◌⊎◌, Contains, Some, None, length, refl, ap, sym, subst, ◌∙◌, inl, inr, arith, Ok, Err}
use native.Mathlib.Decide.{ℕ_discrete, dec_lt}
use Rattle.hpr_terms.specs.declared.tag.Tag.{Tag}
use Rattle.hpr_syntax.specs.declared.rows.Content.TheVariants.{If}
use Rattle.hpr_terms.specs.declared.expr.Expr.TheVariants.{Num}
use Rattle.hpr_syntax.specs.Tree.{Tree}
use Rattle.hpr_meaning.specs.Any.Run.{Outcome, ends, faults, more, run, outcome, FinalValues}
use Rattle.hpr_syntax.specs.Skeleton.{Distinct, skeleton}
use Rattle.hpr_syntax.specs.Nests.{Says}
use Rattle.hpr_paths.specs.Times.{Place, IsBefore}
use Rattle.hpr_meaning.specs.Any.Instances.{Instance, state_after, trace, log_of, after_of}
use mathlib.Core.List.{reverse_aux}
use Rattle.hpr_graph.specs.declared.vertex.Vertex.{Vertex}
use Rattle.hpr_graph.specs.Graphs.{Same}
use Rattle.hpr_graph.specs.Slices.{slice_at}
use Rattle.hpr_graph.specs.ProgramGraph.{graph_of}
use Rattle.hpr_meaning.specs.Any.Kept.{Ends}
use Rattle.hpr_paths.proofs.Among.{Among, here, there, among_left, among_right, among_contains, contains_among, no_both}
use Rattle.hpr_paths.proofs.TimeOrder.{never_before_itself}
use Rattle.hpr_meaning.proofs.Timely.{run_of_course, ends_over}
use Rattle.hpr_meaning.proofs.RunFacts.{Ending}
use Rattle.hpr_meaning.proofs.Items.{Spot, spot_of, item_at, log_before, item_of_among, among_of_item}
use Rattle.hpr_paths.proofs.Says.{says_one}
use Rattle.hpr_meaning.proofs.RunRecords.{vertex_at, nth_step, IsStepAt, step_says, steps_rise, at_stop, run_record, known}
use Rattle.hpr_meaning.proofs.SameSlices.{InBoth, both_of_first, shares}
use Rattle.hpr_meaning.proofs.TwoRuns.{shared}
use Rattle.hpr_meaning.proofs.SharedSlices.{faults_at}
use Rattle.std.proofs.lemmas.List.{length-append}
use Rattle.std.proofs.Math.ListN.{length-reverse_aux}
use Rattle.hpr_syntax.specs.Shape.{IsProgram}
use Rattle.std.specs.List.{AllByRecursion}
use Rattle.hpr_terms.proofs.Facts.{compared}
use Rattle.hpr_meaning.specs.Any.CoverLaw.{DoesEnd}
use Rattle.hpr_meaning.specs.CoverLaw.{Version, IsCovered, steps_of}
use Rattle.hpr_paths.proofs.Different.{distinct_program}

module _ (M : Meaning) (LW : HasLaws M) where
  -- there are no n + 1 different numbers below n
  abbrev Moved : (ℕ → ℕ) → ℕ → ℕ → ℕ → Type 0
  Moved g n y k = (z : ℕ) × (((g k ≡ n) × (z ≡ y)) ⊎ ((¬ (g k ≡ n)) × (z ≡ g k)))

  moved : (g : ℕ → ℕ) (n y k : ℕ) → Moved g n y k
  moved g n y k = go (ℕ_discrete (g k) n)
    where
      go : Dec (g k ≡ n) → Moved g n y k
      go (yes e) = (y, inl (e, refl))
      go (no m) = (g k, inr (m, refl))

  no_more_numbers : (n : ℕ) (g : ℕ → ℕ) → ((k : ℕ) → k < suc n → g k < n) → ((j k : ℕ) → j < k → k < suc n → ¬ (g j ≡ g k)) → ⊥
  no_more_numbers zero g low far = let a = low 0 (omega arith) in absurd (omega (arith, a))
  no_more_numbers (suc n) g low far = no_more_numbers n (λ k. (moved g n (g (suc n)) k).0) low' far'
    where
      y : ℕ
      y = g (suc n)

      below : (z : ℕ) → z < suc n → ¬ (z ≡ n) → z < n
      below z a m = go (compared z n)
        where
          go : (z < n) ⊎ ((z ≡ n) ⊎ (n < z)) → z < n
          go (inl b) = b
          go (inr (inl e)) = absurd (m e)
          go (inr (inr b)) = absurd (omega (arith, a, b))

      low_go : (k : ℕ) → k < suc n → (s : Moved g n (g (suc n)) k) → s.0 < n
      low_go k a (z, inl (e, q)) = subst (λ w. w < n) (sym q) (below (g (suc n)) (low (suc n) (omega arith)) (λ h. far k (suc n) a (omega arith) (e ∙ sym h)))
      low_go k a (z, inr (m, q)) = subst (λ w. w < n) (sym q) (below (g k) (low k (omega (arith, a))) m)

      low' : (k : ℕ) → k < suc n → (moved g n (g (suc n)) k).0 < n
      low' k a = low_go k a (moved g n (g (suc n)) k)

      far_go : (j k : ℕ) → j < k → k < suc n → (s : Moved g n (g (suc n)) j) (t : Moved g n (g (suc n)) k) → ¬ (s.0 ≡ t.0)
      far_go j k a b (z, inl (e, q)) (w, inl (d, r)) h = far j k a (omega (arith, b)) (e ∙ sym d)
      far_go j k a b (z, inl (e, q)) (w, inr (m, r)) h = far k (suc n) b (omega arith) (sym r ∙ (sym h ∙ q))
      far_go j k a b (z, inr (m, q)) (w, inl (d, r)) h = far j (suc n) (omega (arith, a, b)) (omega arith) (sym q ∙ (h ∙ r))
      far_go j k a b (z, inr (m, q)) (w, inr (l, r)) h = far j k a (omega (arith, b)) (sym q ∙ (h ∙ r))

      far' : (j k : ℕ) → j < k → k < suc n → ¬ ((moved g n (g (suc n)) j).0 ≡ (moved g n (g (suc n)) k).0)
      far' j k a b = far_go j k a b (moved g n (g (suc n)) j) (moved g n (g (suc n)) k)

  -- the items of a run are as many as its steps at most
  items_at_most : (p : Tree) (s : M.State) (n : ℕ) (di : Distinct (skeleton p.body)) → (known M LW p s n di).over ≡ true → length (known M LW p s n di).is ≤ n
  items_at_most p s n di e = go (known M LW p s n di).how
    where
      l : length (reverse_aux (known M LW p s n di).is []) ≡ length (known M LW p s n di).is + 0
      l = length-reverse_aux (known M LW p s n di).is []

      go : Ending M LW p.body s n (trace M s p.body [] [] n) (known M LW p s n di).over (known M LW p s n di).stop → length (known M LW p s n di).is ≤ n
      go (inl (a, (log, left, b, c))) =
          let d : length log ≡ length (reverse_aux (known M LW p s n di).is []) = ap length (sym (ap (log_of M) b) ∙ (known M LW p s n di).log) in omega (arith, c, d, l)
      go (inr h) = absurd (subst (λ (y : Bool). elim y as (λ x. Type 0) [ true ↦ Unit {0} | false ↦ ⊥ ]) (sym e ∙ h.0) tt)

  abbrev IsMore : Outcome M → Type 0
  IsMore (ends g k) = ⊥
  IsMore (faults u y k) = ⊥
  IsMore (more k) = Unit {0}

  -- a run that wants steps has spent all
  spent_all : (p : Tree) (s : M.State) (n : ℕ) (di : Distinct (skeleton p.body)) → IsMore (run M p s n) → ((known M LW p s n di).over ≡ false) × (length (known M LW p s n di).is ≡ n)
  spent_all p s n di m = go (known M LW p s n di).how
    where
      l : length (reverse_aux (known M LW p s n di).is []) ≡ length (known M LW p s n di).is + 0
      l = length-reverse_aux (known M LW p s n di).is []

      is : IsMore (outcome M p.finals n (after_of M s (trace M s p.body [] [] n)))
      is = subst IsMore (sym (run_of_course M LW p s n)) m

      go : Ending M LW p.body s n (trace M s p.body [] [] n) (known M LW p s n di).over (known M LW p s n di).stop → ((known M LW p s n di).over ≡ false) × (length (known M LW p s n di).is ≡ n)
      go (inl (a, (log, left, b, c))) = absurd (subst (λ tr. IsMore (outcome M p.finals n (after_of M s tr))) b is)
      go (inr (a, (None, log, left, b, w, c))) =
          let d : length log ≡ length (reverse_aux (known M LW p s n di).is []) = ap length (sym (ap (log_of M) b) ∙ (known M LW p s n di).log) in (a, omega (arith, c, d, l, w))
      go (inr (a, (Some y, log, left, b, w, c))) = absurd (subst (λ tr. IsMore (outcome M p.finals n (after_of M s tr))) b is)

  -- a step of m that lies in a slice which m has from a program that ends
  IsDoneBy : (p m : Tree) (s : M.State) (n k : ℕ) (dp : Distinct (skeleton p.body)) (dm : Distinct (skeleton m.body)) (N : ℕ) → Type 0
  IsDoneBy p m s n k dp dm N = (i : ℕ) × (i < length (known M LW p s n dp).is) × (spot_of M LW (nth_step M LW p s n dp i) ≡ spot_of M LW (nth_step M LW m s N dm k))
      × (v : M.Value) × (M.answer (nth_step M LW m s N dm k).1.content (state_after M s (log_before M LW (known M LW m s N dm).is [] k)) ≡ Ok v)

  done_by : (p m : Tree) (s : M.State) (n N : ℕ) (dp : Distinct (skeleton p.body)) (dm : Distinct (skeleton m.body)) → (known M LW p s n dp).over ≡ true → (v : Vertex)
      → Same (slice_at (graph_of p) v) (slice_at (graph_of m) v) → (k : ℕ) → IsStepAt M LW m s N dm k → (slice_at (graph_of p) v).vertex (vertex_at (spot_of M LW (nth_step M LW m s N dm k))) → IsDoneBy p m s n k dp dm N
  unfolding IsDoneBy
  done_by p m s n N dp dm is_over v same k st x =
      let h = shared (run_record M LW p s n dp) (run_record M LW m s N dm) (InBoth p m (λ z. z ≡ v)) (shares M LW p m s n N dp dm (λ z. z ≡ v) same (λ e. no_both is_over e)) k st
      (both_of_first M LW p m s n N dp dm (λ z. z ≡ v) same (spot_of M LW (nth_step M LW m s N dm k)) x.0 x.1) in
      (h.0, h.1, h.2, (nth_step M LW p s n dp h.0).1.gave, h.4)

  -- the items of all versions
  abbrev AllEnd : M.State → List Version → Type 0
  AllEnd s versions = AllByRecursion (DoesEnd M s) versions

  abbrev items_in : (s : M.State) (versions : List Version) → AllEnd s versions → List (Instance M)
  items_in s [] done = []
  items_in s (i ∷ versions) done = (known M LW i.0 s i.1 (distinct_program i.0 done.0.0)).is ++ items_in s versions done.1

  over_of : (s : M.State) (i : Version) (e : DoesEnd M s i) → (known M LW i.0 s i.1 (distinct_program i.0 e.0)).over ≡ true
  over_of s i e = ends_over M LW i.0 s i.1 e.1.1.0 e.1.0 (known M LW i.0 s i.1 (distinct_program i.0 e.0)) e.1.1.1

  few_items : (s : M.State) (versions : List Version) (done : AllEnd s versions) → length (items_in s versions done) ≤ steps_of versions
  few_items s [] done = omega arith
  few_items s (i ∷ versions) done =
      let x = items_at_most i.0 s i.1 (distinct_program i.0 done.0.0) (over_of s i done.0) in
      let y = few_items s versions done.1 in
      let z = length-append (known M LW i.0 s i.1 (distinct_program i.0 done.0.0)).is (items_in s versions done.1) in
      omega (arith, x, y, z)

  abbrev IsThere : (s : M.State) (versions : List Version) (done : AllEnd s versions) (i : Version) → Type 0
  IsThere s versions done i = (e : DoesEnd M s i) × ((x : Instance M) → Among x (known M LW i.0 s i.1 (distinct_program i.0 e.0)).is → Among x (items_in s versions done))

  there_is : (s : M.State) (i : Version) (versions : List Version) (done : AllEnd s versions) → Among i versions → IsThere s versions done i
  there_is s i _ done (here {ms = versions}) = (done.0, λ x h. among_left (items_in s versions done.1) h)
  there_is s i _ done (there {n = j} {ms = versions} h) =
      let g = there_is s i versions done.1 h in (g.0, λ x a. among_right (known M LW j.0 s j.1 (distinct_program j.0 done.0.0)).is (g.1 x a))

  module _ (m : Tree) (s : M.State) (versions : List Version) (im : IsProgram m) (all_end : AllEnd s versions) (covered : IsCovered versions m) where
    dm : Distinct (skeleton m.body)
    dm = distinct_program m im

    N : ℕ
    N = steps_of versions

    all : List (Instance M)
    all = items_in s versions all_end

    none : Instance M
    none = ((record { author = 0; serial = 0 }, []), record { content = If (Num 0); reads = []; gave = M.get s []; number = M.shown (If (Num 0)) s })

    IsDone : ℕ → Type 0
    IsDone k = (y : ℕ) × (y < length all) × (spot_of M LW (item_at M LW all none y) ≡ spot_of M LW (nth_step M LW m s N dm k))
        × (v : M.Value) × (M.answer (nth_step M LW m s N dm k).1.content (state_after M s (log_before M LW (known M LW m s N dm).is [] k)) ≡ Ok v)

    -- each step of m is a step of one of the versions, and gives a number
    is_done : (k : ℕ) → IsStepAt M LW m s N dm k → IsDone k
    unfolding all IsDone IsDoneBy
    is_done k st =
        let (i, within, (v, same, lies)) = covered (nth_step M LW m s N dm k).0.0 (nth_step M LW m s N dm k).1.content (step_says M LW m s N dm k st) in
        let (e, into) = there_is s i versions all_end (among_contains i versions within) in
        let (y, low, spot, w, gives) = done_by i.0 m s i.1 N (distinct_program i.0 e.0) dm (over_of s i e) v same k st lies in
        let j = item_of_among M LW none _ all (into _ (among_of_item M LW _ y (known M LW i.0 s i.1 (distinct_program i.0 e.0)).is low)) in
        (j.0, j.1, ap (spot_of M LW) j.2 ∙ spot, w, gives)

    few : length all ≤ N
    unfolding all N
    few = few_items s versions all_end

    -- no step of m faults
    no_fault : (t : Tag) (x : M.Fault) (steps : ℕ) → ¬ (run M m s N ≡ faults t x steps)
    unfolding IsDone
    no_fault t x steps e =
        let b' = faults_at M LW m s N dm t x steps e in
        let k = length (known M LW m s N dm).is in
        let h = is_done k (inr (refl, b'.0)) in
        let pl = ap (λ (y : Place). y.0) (at_stop M LW m s N dm k refl) ∙ b'.1 in
        let sy = subst (λ z. Says m.body z (nth_step M LW m s N dm k).1.content) pl (step_says M LW m s N dm k (inr (refl, b'.0))) in
        let er = subst (λ z. M.answer z (state_after M s (log_before M LW (known M LW m s N dm).is [] k)) ≡ Err x) (says_one m.body dm t b'.2.0 (nth_step M LW m s N dm k).1.content b'.2.1 sy) b'.2.2 in
        ok_or_err _ h.3 x h.4 er
      where
        ok_or_err : (a : Given M) (v : M.Value) (x : M.Fault) → a ≡ Ok v → a ≡ Err x → ⊥
        ok_or_err a v x o e = absurd cc

    -- it doesn't want steps: N + 1 different steps would be among N items
    not_spent : ¬ IsMore (run M m s N)
    unfolding IsDone
    not_spent w = no_more_numbers N (λ k. (number k).0) low far
      where
        sp : ((known M LW m s N dm).over ≡ false) × (length (known M LW m s N dm).is ≡ N)
        sp = spent_all m s N dm w

        step_is : (k : ℕ) → k < suc N → IsStepAt M LW m s N dm k
        step_is k l = go (compared k N)
          where
            go : (k < N) ⊎ ((k ≡ N) ⊎ (N < k)) → IsStepAt M LW m s N dm k
            go (inl x) = let y = sp.1 in inl (omega (arith, x, y))
            go (inr (inl x)) = let y = sp.1 in inr (omega (arith, x, y), sp.0)
            go (inr (inr x)) = absurd (omega (arith, l, x))

        number : (k : ℕ) → (y : ℕ) × ((k < suc N) → (y < length all) × (spot_of M LW (item_at M LW all none y) ≡ spot_of M LW (nth_step M LW m s N dm k)))
        number k = go (dec_lt k (suc N))
          where
            go : Dec (k < suc N) → (y : ℕ) × ((k < suc N) → (y < length all) × (spot_of M LW (item_at M LW all none y) ≡ spot_of M LW (nth_step M LW m s N dm k)))
            go (yes l) = let h = is_done k (step_is k l) in (h.0, λ _. (h.1, h.2))
            go (no n) = (0, λ l. absurd (n l))

        low : (k : ℕ) → k < suc N → (number k).0 < N
        low k l = let x = ((number k).1 l).0 in let y = few in omega (arith, x, y)

        far : (j k : ℕ) → j < k → k < suc N → ¬ ((number j).0 ≡ (number k).0)
        far j k a' l e =
            let x = ((number j).1 (omega (arith, a', l))).1 in let y = ((number k).1 l).1 in
            let same : spot_of M LW (nth_step M LW m s N dm j) ≡ spot_of M LW (nth_step M LW m s N dm k) = sym x ∙ (ap (λ z. spot_of M LW (item_at M LW all none z)) e ∙ y) in
            let h = steps_rise M LW m s N dm j k a' (step_is k l) in
            never_before_itself (skeleton m.body) 0 dm (nth_step M LW m s N dm k).0 (subst (λ (z : Spot). IsBefore m.body z.0 (nth_step M LW m s N dm k).0) same h)

    ends_by : (o : Outcome M) → run M m s N ≡ o → (g : FinalValues M) × (steps : ℕ) × (run M m s N ≡ ends g steps)
    ends_by (ends g k) e = (g, k, e)
    ends_by (faults t x k) e = absurd (no_fault t x k e)
    ends_by (more k) e = absurd (not_spent (subst IsMore (sym e) tt))

    pub covered_ends : (g : FinalValues M) × Ends M m s (steps_of versions) g
    unfolding N
    covered_ends = let g = ends_by (run M m s N) refl in (g.0, (g.1, g.2))

  all_of : (s : M.State) (versions : List Version) → ((i : Version) → Contains versions i → DoesEnd M s i) → AllEnd s versions
  all_of s [] f = tt
  all_of s (i ∷ versions) f = (f i (contains_among i (i ∷ versions) here), all_of s versions (λ j c. f j (contains_among j (i ∷ versions) (there (among_contains j versions c)))))

  pub covered_end : (m : Tree) (s : M.State) (versions : List Version) → IsProgram m → ((i : Version) → Contains versions i → DoesEnd M s i) → IsCovered versions m
      → (g : FinalValues M) × Ends M m s (steps_of versions) g
  covered_end m s versions im f covered = covered_ends m s versions im (all_of s versions f) covered
