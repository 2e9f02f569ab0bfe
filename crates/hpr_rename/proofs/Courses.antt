-- A run with other tags: it does what the run does, step by step.
use Rattle.hpr_meaning.specs.Any.Meaning.{Meaning, Given, HasLaws, next}
use Rattle.std.proofs.Common.{◌≡◌, ℕ, zero, suc, ◌+◌, Bool, true, false, List, [], ◌∷◌, ◌++◌, map, reverse, Option, Some, None, refl, sym, ap, ◌∙◌, if◌then◌else◌, Ok, Err}
use mathlib.Core.List.{reverse_aux}
use Rattle.std.specs.Ordering.{is_eq}
use Rattle.hpr_terms.specs.declared.tag.Tag.{Tag}
use Rattle.hpr_terms.specs.declared.expr.Expr.{Expr}
use Rattle.hpr_syntax.specs.declared.rows.Content.{Content}
use Rattle.hpr_syntax.specs.declared.rows.Content.TheVariants.{If, While}
use Rattle.hpr_syntax.specs.Body.{Body, done, action, branch, loop}
use Rattle.hpr_syntax.specs.Issued.{Issued}
use Rattle.hpr_syntax.specs.Rows.{content_by, assigned}
use Rattle.hpr_meaning.specs.Any.Run.{After, outcome, run, run_body}
use Rattle.hpr_meaning.specs.Any.Run as after
use Rattle.hpr_syntax.specs.Tree.{Tree}
use Rattle.hpr_graph.specs.Order.{name_cmp}
use Rattle.hpr_paths.specs.Times.{Place}
use Rattle.hpr_meaning.specs.Any.Instances.{Instance, state_after, definer, read_of, logged, Course, goes, stops, step_at, then_go, turns_from, trace, log_of, after_of, course_of, instances, with_definer, names_of}
use Rattle.hpr_meaning.proofs.TraceRun.{trace_run}
use Rattle.hpr_rename.specs.Renamed.{body_with, tree_with}
use Rattle.hpr_rename.specs.Any.RenamedRuns.{outcome_with, read_with, instance_with}
use Rattle.hpr_rename.specs.RenamedRuns.{place_with, origin_with}

module _ (M : Meaning) (LW : HasLaws M) where
  module _ (f : Tag → Tag) where
    abbrev log_with : List (Instance M) → List (Instance M)
    log_with log = map (instance_with M f) log

    abbrev course_with : Course M → Course M
    course_with (goes log left) = goes (log_with log) left
    course_with (stops a why log left) = stops (place_with f a) why (log_with log) left

    abbrev after_with : After M → After M
    after_with (after.goes s left) = after.goes s left
    after_with (after.stops t fault left) = after.stops (f t) fault left
    after_with after.spent = after.spent

    -- what is told by the log
    state_with : (s : M.State) (log : List (Instance M)) → state_after M s (log_with log) ≡ state_after M s log
    state_with s [] = refl
    state_with s (i ∷ log) = ap (next M i.1.content i.1.gave) (state_with s log)

    if_origin : (b : Bool) (step : Place × Content) (older : Option (Place × Content))
        → (if b then Some (place_with f step.0, step.1) else origin_with f older) ≡ origin_with f (if b then Some step else older)
    if_origin true step older = refl
    if_origin false step older = refl

    one_definer : (o : Option (List ℕ)) (step : Place × Content) (x : List ℕ) (older : Option (Place × Content))
        → with_definer o (place_with f step.0, step.1) x (origin_with f older) ≡ origin_with f (with_definer o step x older)
    one_definer None step x older = refl
    one_definer (Some y) step x older = if_origin (is_eq (name_cmp x y)) step older

    definer_with : (x : List ℕ) (log : List (Instance M)) → definer M x (log_with log) ≡ origin_with f (definer M x log)
    definer_with x [] = refl
    definer_with x (i ∷ log) =
        ap (with_definer (assigned i.1.content) (place_with f i.0, i.1.content) x) (definer_with x log)
        ∙ one_definer (assigned i.1.content) (i.0, i.1.content) x (definer M x log)

    one_read : (s : M.State) (log : List (Instance M)) (x : List ℕ) → read_of M s (log_with log) x ≡ read_with M f (read_of M s log x)
    one_read s log x = let p = state_with s log in let q = definer_with x log in (λ i. record { name = x; value = M.get (p i) x; origin = q i })

    all_reads : (s : M.State) (log : List (Instance M)) (names : List (List ℕ)) → map (read_of M s (log_with log)) names ≡ map (read_with M f) (map (read_of M s log) names)
    all_reads s log [] = refl
    all_reads s log (x ∷ names) = let p = one_read s log x in let q = all_reads s log names in (λ i. p i ∷ q i)

    logged_with : (a : Place) (c : Content) (v : M.Value) (s : M.State) (log : List (Instance M)) → log_with (logged M a c v s log) ≡ logged M (place_with f a) c v s (log_with log)
    logged_with a c v s log =
        let reads = all_reads s log (names_of c) in
        let state = state_with s log in
        (λ k. (place_with f a, record { content = c; reads = sym reads k; gave = v; number = M.shown c (sym state k) }) ∷ log_with log)

    -- step by step
    one_step : (a : Place) (answer : Given M) (log : List (Instance M)) (left : ℕ) (go go' : M.Value → ℕ → Course M)
        → ((v : M.Value) (l : ℕ) → course_with (go v l) ≡ go' v l) → course_with (step_at M a answer log left go) ≡ step_at M (place_with f a) answer (log_with log) left go'
    one_step a answer log zero go go' h = refl
    one_step a (Ok v) log (suc left) go go' h = h v left
    one_step a (Err fault) log (suc left) go go' h = refl

    step_with : (a : Place) (c : Content) (s : M.State) (log : List (Instance M)) (left : ℕ) (go go' : M.Value → ℕ → Course M)
        → ((v : M.Value) (l : ℕ) → course_with (go v l) ≡ go' v l)
        → course_with (step_at M a (M.answer c (state_after M s log)) log left go) ≡ step_at M (place_with f a) (M.answer c (state_after M s (log_with log))) (log_with log) left go'
    step_with a c s log left go go' h =
        one_step a (M.answer c (state_after M s log)) log left go go' h
        ∙ ap (λ (state : M.State). step_at M (place_with f a) (M.answer c state) (log_with log) left go') (sym (state_with s log))

    then_with : (x y : Course M) (go go' : List (Instance M) → ℕ → Course M)
        → course_with x ≡ y → ((log : List (Instance M)) (l : ℕ) → course_with (go log l) ≡ go' (log_with log) l) → course_with (then_go M x go) ≡ then_go M y go'
    then_with (goes log left) y go go' e h = h log left ∙ ap (λ z. then_go M z go') e
    then_with (stops a why log left) y go go' e h = ap (λ z. then_go M z go') e

    if_with : (b : Bool) (x y x' y' : Course M) → course_with x ≡ x' → course_with y ≡ y' → course_with (if b then x else y) ≡ (if b then x' else y')
    if_with true x y x' y' p q = p
    if_with false x y x' y' p q = q

    turns_with : (s : M.State) (k n : ℕ) (t : Tag) (e : Expr) (body body' : List ℕ → List (Instance M) → ℕ → Course M)
        → ((around : List ℕ) (log : List (Instance M)) (l : ℕ) → course_with (body around log l) ≡ body' around (log_with log) l)
        → (around : List ℕ) (log : List (Instance M)) (left : ℕ)
        → course_with (turns_from M k n t e body s around log left) ≡ turns_from M k n (f t) e body' s around (log_with log) left
    turns_with s k zero t e body body' h around log left = refl
    turns_with s k (suc n) t e body body' h around log left =
        step_with (t, around ++ k ∷ []) (While e) s log left _ _ (λ v l.
        let seen = logged_with (t, around ++ k ∷ []) (While e) v s log in
        if_with (M.holds v) _ _ _ _
        (then_with (body (around ++ k ∷ []) (logged M (t, around ++ k ∷ []) (While e) v s log) l) _ _ _
        (h (around ++ k ∷ []) (logged M (t, around ++ k ∷ []) (While e) v s log) l ∙ ap (λ (g : List (Instance M)). body' (around ++ k ∷ []) g l) seen)
        (λ log' l'. turns_with s (suc k) n t e body body' h around log' l'))
        (ap (λ (g : List (Instance M)). goes g l) seen))

    trace_with : (s : M.State) (b : Body) (around : List ℕ) (log : List (Instance M)) (left : ℕ)
        → course_with (trace M s b around log left) ≡ trace M s (body_with f b) around (log_with log) left
    trace_with s done around log left = refl
    trace_with s (action t d rest) around log left =
        let c = content_by d in
        step_with (t, around) c s log left _ _ (λ v l.
        trace_with s rest around (logged M (t, around) c v s log) l
        ∙ ap (λ (g : List (Instance M)). trace M s (body_with f rest) around g l) (logged_with (t, around) c v s log))
    trace_with s (branch t e a b rest) around log left =
        step_with (t, around) (If e) s log left _ _ (λ v l.
        let seen = logged_with (t, around) (If e) v s log in
        then_with (if M.holds v then trace M s a around (logged M (t, around) (If e) v s log) l else trace M s b around (logged M (t, around) (If e) v s log) l) _ _ _
        (if_with (M.holds v) _ _ _ _
        (trace_with s a around (logged M (t, around) (If e) v s log) l ∙ ap (λ (g : List (Instance M)). trace M s (body_with f a) around g l) seen)
        (trace_with s b around (logged M (t, around) (If e) v s log) l ∙ ap (λ (g : List (Instance M)). trace M s (body_with f b) around g l) seen))
        (λ log' l'. trace_with s rest around log' l'))
    trace_with s (loop t e b rest) around log left =
        then_with (turns_from M 0 (left + 1) t e (trace M s b) s around log left) _ _ _
        (turns_with s 0 (left + 1) t e (trace M s b) (trace M s (body_with f b)) (trace_with s b) around log left) (λ log' l'. trace_with s rest around log' l')

    -- the whole
    log_same : (c : Course M) → log_of M (course_with c) ≡ log_with (log_of M c)
    log_same (goes log left) = refl
    log_same (stops a why log left) = refl

    reversed : (xs ys : List (Instance M)) → log_with (reverse_aux xs ys) ≡ reverse_aux (log_with xs) (log_with ys)
    reversed [] ys = refl
    reversed (x ∷ xs) ys = reversed xs (x ∷ ys)

    after_same : (s : M.State) (c : Course M) → after_of M s (course_with c) ≡ after_with (after_of M s c)
    after_same s (goes log left) = ap (λ (state : M.State). after.goes state left) (state_with s log)
    after_same s (stops a None log left) = refl
    after_same s (stops a (Some fault) log left) = refl

    outcome_same : (names : List (List ℕ)) (n : ℕ) (x : After M) → outcome M names n (after_with x) ≡ outcome_with M f (outcome M names n x)
    outcome_same names n (after.goes s left) = refl
    outcome_same names n (after.stops t fault left) = refl
    outcome_same names n after.spent = refl

    body_runs : (s : M.State) (b : Body) (n : ℕ) → run_body M (body_with f b) s n ≡ after_with (run_body M b s n)
    body_runs s b n =
        sym (trace_run M LW s (body_with f b) [] [] n)
        ∙ ap (after_of M s) (sym (trace_with s b [] [] n))
        ∙ after_same s (trace M s b [] [] n)
        ∙ ap after_with (trace_run M LW s b [] [] n)

    pub renamed_run : (issued : Issued) (t : Tree) (s : M.State) (n : ℕ) → run M (tree_with f issued t) s n ≡ outcome_with M f (run M t s n)
    renamed_run issued t s n = ap (outcome M t.finals n) (body_runs s t.body n) ∙ outcome_same t.finals n (run_body M t.body s n)

    pub renamed_instances : (issued : Issued) (t : Tree) (s : M.State) (n : ℕ) → instances M (tree_with f issued t) s n ≡ log_with (instances M t s n)
    renamed_instances issued t s n =
        ap (λ (c : Course M). reverse (log_of M c)) (sym (trace_with s t.body [] [] n))
        ∙ ap reverse (log_same (course_of M t s n))
        ∙ sym (reversed (log_of M (course_of M t s n)) [])
