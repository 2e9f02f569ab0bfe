-- The course of a run is an execution of its skeleton, with its log, the place where it stopped, and how many steps it took.
use Rattle.hpr_meaning.specs.Any.Meaning.{Meaning, Given, HasLaws}
use Rattle.hpr_paths.specs.Runs as runs
use Rattle.std.proofs.Common.{◌≡◌, ℕ, zero, suc, ◌+◌, ◌<◌, ◌≤◌, Bool, true, false, List, [], ◌∷◌, ◌++◌, Option, Some, None, length, refl, inl, inr, arith, if◌then◌else◌, Ok, Err}
use Rattle.hpr_terms.specs.declared.tag.Tag.{Tag}
use Rattle.hpr_terms.specs.declared.expr.Expr.{Expr}
use Rattle.hpr_syntax.specs.declared.rows.Content.{Content}
use Rattle.hpr_syntax.specs.declared.rows.Content.TheVariants.{If, While}
use Rattle.hpr_syntax.specs.Body.{Body, done, action, branch, loop}
use Rattle.hpr_syntax.specs.Skeleton.{Skeleton, act, fork, round, skeleton}
use Rattle.hpr_syntax.specs.Nests.{Says}
use Rattle.hpr_paths.specs.Times.{Place}
use Rattle.hpr_meaning.specs.Any.Instances.{Did, Instance, truth, reads_of, state_after, logged, Course, goes, stops, step_at, then_go, turns_from, trace}
use Rattle.hpr_syntax.specs.Rows.{content_by}
use Rattle.hpr_paths.specs.Runs.{Execution}
use Rattle.hpr_paths.proofs.Listed.{where_stopped}

module _ (M : Meaning) (LW : HasLaws M) where
  module _ (p : Body) (s : M.State) where
    -- what a part does after a log
    abbrev pub Does : Tag → List (Instance M) → Did M → Type 0
    Does t g d = Says p t d.content × (d.reads ≡ reads_of M d.content s g) × (M.answer d.content (state_after M s g) ≡ Ok d.gave) × (d.number ≡ M.shown d.content (state_after M s g))

    abbrev pub Runs : Skeleton → ℕ → List ℕ → List (Instance M) → List Place → Bool → List (Instance M) → Type 0
    Runs B j T g ss e h = Execution (Did M) (truth M) Does B j T g ss e h

    abbrev pub StopsFor : Place → Option M.Fault → List (Instance M) → ℕ → Type 0
    StopsFor at None g l = l ≡ 0
    StopsFor at (Some f) g l = (c : Content) × Says p at.0 c × (M.answer c (state_after M s g) ≡ Err f)

    abbrev pub HasSpent : Option M.Fault → ℕ → ℕ → Type 0
    HasSpent None a b = a ≡ b
    HasSpent (Some f) a b = suc a ≡ b

    abbrev pub HasRun : Skeleton → ℕ → List ℕ → List (Instance M) → ℕ → Course M → Type 0
    HasRun B j T g left (goes h l) = (ss : List Place) × Runs B j T g ss true h × (length h + l ≡ length g + left) × (l ≤ left)
    HasRun B j T g left (stops at why h l) =
        (ss : List Place) × (d : Runs B j T g ss false h) × (where_stopped (Did M) (truth M) Does B j T g ss false h d ≡ at) × StopsFor at why h l × HasSpent why (length h + l) (length g + left)

    spent_one : (why : Option M.Fault) (a g l left : ℕ) → suc l ≡ left → HasSpent why a (suc g + l) → HasSpent why a (g + left)
    spent_one None a g l left e c = omega (arith, e, c)
    spent_one (Some f) a g l left e c = omega (arith, e, c)

    spent_more : (why : Option M.Fault) (a g left h l : ℕ) → h + l ≡ suc g + left → HasSpent why a (h + l) → (left' : ℕ) → suc left ≡ left' → HasSpent why a (g + left')
    spent_more None a g left h l e c left' f = omega (arith, e, c, f)
    spent_more (Some x) a g left h l e c left' f = omega (arith, e, c, f)

    act_has_run : (t : Tag) (k : Skeleton) (j : ℕ) (T : List ℕ) (g : List (Instance M)) (d : Did M) (l left : ℕ) → Does t g d → suc l ≡ left
        → (tr : Course M) → HasRun k 0 T (((t, T), d) ∷ g) l tr → HasRun (act t k) j T g left tr
    unfolding where_stopped
    act_has_run t k j T g d l left w e (goes h m) r = ((t, T) ∷ r.0, runs.act_goes d w r.1, omega (arith, r.2, e), omega (arith, r.3, e))
    act_has_run t k j T g d l left w e (stops at why h m) r = ((t, T) ∷ r.0, runs.act_goes d w r.1, r.2, r.3, spent_one why (length h + m) (length g) l left e r.4)

    -- a conditional, and its branch ended or the run stopped there
    yes_and_on : (t : Tag) (b c k : Skeleton) (j : ℕ) (T : List ℕ) (g h : List (Instance M)) (d : Did M) (l m left : ℕ) → Does t g d → suc l ≡ left → truth M d ≡ true
        → HasRun b 0 T (((t, T), d) ∷ g) l (goes h m) → (tr : Course M) → HasRun k 0 T h m tr → HasRun (fork t b c k) j T g left tr
    unfolding where_stopped
    yes_and_on t b c k j T g h d l m left w e y x (goes i n) r =
        ((t, T) ∷ (x.0 ++ r.0), runs.yes_goes d w y x.1 r.1, omega (arith, x.2, r.2, e), omega (arith, x.3, r.3, e))
    yes_and_on t b c k j T g h d l m left w e y x (stops at why i n) r =
        ((t, T) ∷ (x.0 ++ r.0), runs.yes_goes d w y x.1 r.1, r.2, r.3, spent_more why (length i + n) (length g) l (length h) m x.2 r.4 left e)

    yes_has_run : (t : Tag) (b c k : Skeleton) (j : ℕ) (T : List ℕ) (g : List (Instance M)) (d : Did M) (l left : ℕ) → Does t g d → suc l ≡ left → truth M d ≡ true
        → (tr : Course M) → HasRun b 0 T (((t, T), d) ∷ g) l tr → (go : List (Instance M) → ℕ → Course M) → ((h : List (Instance M)) (m : ℕ) → HasRun k 0 T h m (go h m))
        → HasRun (fork t b c k) j T g left (then_go M tr go)
    unfolding where_stopped
    yes_has_run t b c k j T g d l left w e y (goes h m) x go f = yes_and_on t b c k j T g h d l m left w e y x (go h m) (f h m)
    yes_has_run t b c k j T g d l left w e y (stops at why h m) x go f =
        ((t, T) ∷ x.0, runs.yes_stops d w y x.1, x.2, x.3, spent_one why (length h + m) (length g) l left e x.4)

    no_and_on : (t : Tag) (b c k : Skeleton) (j : ℕ) (T : List ℕ) (g h : List (Instance M)) (d : Did M) (l m left : ℕ) → Does t g d → suc l ≡ left → truth M d ≡ false
        → HasRun c 0 T (((t, T), d) ∷ g) l (goes h m) → (tr : Course M) → HasRun k 0 T h m tr → HasRun (fork t b c k) j T g left tr
    unfolding where_stopped
    no_and_on t b c k j T g h d l m left w e y x (goes i n) r =
        ((t, T) ∷ (x.0 ++ r.0), runs.no_goes d w y x.1 r.1, omega (arith, x.2, r.2, e), omega (arith, x.3, r.3, e))
    no_and_on t b c k j T g h d l m left w e y x (stops at why i n) r =
        ((t, T) ∷ (x.0 ++ r.0), runs.no_goes d w y x.1 r.1, r.2, r.3, spent_more why (length i + n) (length g) l (length h) m x.2 r.4 left e)

    no_has_run : (t : Tag) (b c k : Skeleton) (j : ℕ) (T : List ℕ) (g : List (Instance M)) (d : Did M) (l left : ℕ) → Does t g d → suc l ≡ left → truth M d ≡ false
        → (tr : Course M) → HasRun c 0 T (((t, T), d) ∷ g) l tr → (go : List (Instance M) → ℕ → Course M) → ((h : List (Instance M)) (m : ℕ) → HasRun k 0 T h m (go h m))
        → HasRun (fork t b c k) j T g left (then_go M tr go)
    unfolding where_stopped
    no_has_run t b c k j T g d l left w e y (goes h m) x go f = no_and_on t b c k j T g h d l m left w e y x (go h m) (f h m)
    no_has_run t b c k j T g d l left w e y (stops at why h m) x go f =
        ((t, T) ∷ x.0, runs.no_stops d w y x.1, x.2, x.3, spent_one why (length h + m) (length g) l left e x.4)

    -- a loop that is left; and one that goes on, and its body ended or the run stopped there
    leaving_has_run : (t : Tag) (b k : Skeleton) (j : ℕ) (T : List ℕ) (g : List (Instance M)) (d : Did M) (l left : ℕ) → Does t g d → suc l ≡ left → truth M d ≡ false
        → (tr : Course M) → HasRun k 0 T (((t, T ++ (j ∷ [])), d) ∷ g) l tr → HasRun (round t b k) j T g left tr
    unfolding where_stopped
    leaving_has_run t b k j T g d l left w e y (goes h m) r = ((t, T ++ (j ∷ [])) ∷ r.0, runs.round_leaves d w y r.1, omega (arith, r.2, e), omega (arith, r.3, e))
    leaving_has_run t b k j T g d l left w e y (stops at why h m) r =
        ((t, T ++ (j ∷ [])) ∷ r.0, runs.round_leaves d w y r.1, r.2, r.3, spent_one why (length h + m) (length g) l left e r.4)

    turn_and_on : (t : Tag) (b k : Skeleton) (j : ℕ) (T : List ℕ) (g h : List (Instance M)) (d : Did M) (l m left : ℕ) → Does t g d → suc l ≡ left → truth M d ≡ true
        → HasRun b 0 (T ++ (j ∷ [])) (((t, T ++ (j ∷ [])), d) ∷ g) l (goes h m) → (tr : Course M) → HasRun (round t b k) (suc j) T h m tr → HasRun (round t b k) j T g left tr
    unfolding where_stopped
    turn_and_on t b k j T g h d l m left w e y x (goes i n) r =
        ((t, T ++ (j ∷ [])) ∷ (x.0 ++ r.0), runs.body_goes d w y x.1 r.1, omega (arith, x.2, r.2, e), omega (arith, x.3, r.3, e))
    turn_and_on t b k j T g h d l m left w e y x (stops at why i n) r =
        ((t, T ++ (j ∷ [])) ∷ (x.0 ++ r.0), runs.body_goes d w y x.1 r.1, r.2, r.3, spent_more why (length i + n) (length g) l (length h) m x.2 r.4 left e)

    turn_has_run : (t : Tag) (b k : Skeleton) (j : ℕ) (T : List ℕ) (g : List (Instance M)) (d : Did M) (l left n : ℕ) → Does t g d → suc l ≡ left → truth M d ≡ true → l < n
        → (tr : Course M) → HasRun b 0 (T ++ (j ∷ [])) (((t, T ++ (j ∷ [])), d) ∷ g) l tr → (go go' : List (Instance M) → ℕ → Course M)
        → ((h : List (Instance M)) (m : ℕ) → m < n → HasRun (round t b k) (suc j) T h m (then_go M (go h m) go'))
        → HasRun (round t b k) j T g left (then_go M (then_go M tr go) go')
    unfolding where_stopped
    turn_has_run t b k j T g d l left n w e y lt (goes h m) x go go' f = turn_and_on t b k j T g h d l m left w e y x (then_go M (go h m) go') (f h m (omega (arith, x.3, lt)))
    turn_has_run t b k j T g d l left n w e y lt (stops at why h m) x go go' f =
        ((t, T ++ (j ∷ [])) ∷ x.0, runs.body_stops d w y x.1, x.2, x.3, spent_one why (length h + m) (length g) l left e x.4)

    -- what a step did
    given : (t : Tag) (c : Content) (g : List (Instance M)) (v : M.Value) → Says p t c → M.answer c (state_after M s g) ≡ Ok v
        → Does t g (record { content = c; reads = reads_of M c s g; gave = v; number = M.shown c (state_after M s g) })
    given t c g v h e = (h, refl, e, refl)

    assign_step : (t : Tag) (c : Content) (k : Skeleton) (T : List ℕ) (g : List (Instance M)) (a : Given M) (left : ℕ) → Says p t c → M.answer c (state_after M s g) ≡ a
        → (go : M.Value → ℕ → Course M) → ((v : M.Value) (l : ℕ) → HasRun k 0 T (logged M (t, T) c v s g) l (go v l)) → HasRun (act t k) 0 T g left (step_at M (t, T) a g left go)
    unfolding where_stopped
    assign_step t c k T g a zero h e go f = ((t, T) ∷ [], runs.act_stops, refl, refl, omega arith)
    assign_step t c k T g (Ok v) (suc l) h e go f = act_has_run t k 0 T g _ l (suc l) (given t c g v h e) refl (go v l) (f v l)
    assign_step t c k T g (Err x) (suc l) h e go f = ((t, T) ∷ [], runs.act_stops, refl, (c, h, e), omega arith)

    branch_if : (t : Tag) (b c k : Skeleton) (T : List ℕ) (g : List (Instance M)) (d : Did M) (l left : ℕ) → Does t g d → suc l ≡ left
        → (y : Bool) → truth M d ≡ y → (tr tr' : Course M) → HasRun b 0 T (((t, T), d) ∷ g) l tr → HasRun c 0 T (((t, T), d) ∷ g) l tr'
        → (go : List (Instance M) → ℕ → Course M) → ((h : List (Instance M)) (m : ℕ) → HasRun k 0 T h m (go h m))
        → HasRun (fork t b c k) 0 T g left (then_go M (if y then tr else tr') go)
    branch_if t b c k T g d l left w e true y tr tr' r r' go f = yes_has_run t b c k 0 T g d l left w e y tr r go f
    branch_if t b c k T g d l left w e false y tr tr' r r' go f = no_has_run t b c k 0 T g d l left w e y tr' r' go f

    branch_step : (t : Tag) (e : Expr) (b c k : Skeleton) (T : List ℕ) (g : List (Instance M)) (a : Given M) (left : ℕ) → Says p t (If e) → M.answer (If e) (state_after M s g) ≡ a
        → (yes' no' : List (Instance M) → ℕ → Course M) → ((h : List (Instance M)) (m : ℕ) → HasRun b 0 T h m (yes' h m)) → ((h : List (Instance M)) (m : ℕ) → HasRun c 0 T h m (no' h m))
        → (go : List (Instance M) → ℕ → Course M) → ((h : List (Instance M)) (m : ℕ) → HasRun k 0 T h m (go h m))
        → HasRun (fork t b c k) 0 T g left (step_at M (t, T) a g left (λ v l. then_go M (if M.holds v then yes' (logged M (t, T) (If e) v s g) l else no' (logged M (t, T) (If e) v s g) l) go))
    unfolding where_stopped
    branch_step t e b c k T g a zero h q y n fy fn go f = ((t, T) ∷ [], runs.fork_stops, refl, refl, omega arith)
    branch_step t e b c k T g (Ok v) (suc l) h q y n fy fn go f =
        branch_if t b c k T g (record { content = If e; reads = reads_of M (If e) s g; gave = v; number = M.shown (If e) (state_after M s g) }) l (suc l) (given t (If e) g v h q) refl (M.holds v) refl _ _ (fy _ l) (fn _ l) go f
    branch_step t e b c k T g (Err x) (suc l) h q y n fy fn go f = ((t, T) ∷ [], runs.fork_stops, refl, (If e, h, q), omega arith)

    loop_if : (t : Tag) (b k : Skeleton) (j : ℕ) (T : List ℕ) (g : List (Instance M)) (d : Did M) (l left n : ℕ) → Does t g d → suc l ≡ left → l < n
        → (y : Bool) → truth M d ≡ y → (tr : Course M) → HasRun b 0 (T ++ (j ∷ [])) (((t, T ++ (j ∷ [])), d) ∷ g) l tr
        → (go go' : List (Instance M) → ℕ → Course M)
        → ((h : List (Instance M)) (m : ℕ) → m < n → HasRun (round t b k) (suc j) T h m (then_go M (go h m) go'))
        → ((h : List (Instance M)) (m : ℕ) → HasRun k 0 T h m (go' h m))
        → HasRun (round t b k) j T g left (then_go M (if y then then_go M tr go else goes (((t, T ++ (j ∷ [])), d) ∷ g) l) go')
    loop_if t b k j T g d l left n w e lt true y tr r go go' f f' = turn_has_run t b k j T g d l left n w e y lt tr r go go' f
    loop_if t b k j T g d l left n w e lt false y tr r go go' f f' = leaving_has_run t b k j T g d l left w e y (go' (((t, T ++ (j ∷ [])), d) ∷ g) l) (f' (((t, T ++ (j ∷ [])), d) ∷ g) l)

    loop_step : (t : Tag) (e : Expr) (b k : Skeleton) (j : ℕ) (T : List ℕ) (g : List (Instance M)) (a : Given M) (left n : ℕ) → Says p t (While e) → M.answer (While e) (state_after M s g) ≡ a → left < suc n
        → (body : List (Instance M) → ℕ → Course M) → ((h : List (Instance M)) (m : ℕ) → HasRun b 0 (T ++ (j ∷ [])) h m (body h m))
        → (go go' : List (Instance M) → ℕ → Course M)
        → ((h : List (Instance M)) (m : ℕ) → m < n → HasRun (round t b k) (suc j) T h m (then_go M (go h m) go'))
        → ((h : List (Instance M)) (m : ℕ) → HasRun k 0 T h m (go' h m))
        → HasRun (round t b k) j T g left (then_go M (step_at M (t, T ++ (j ∷ [])) a g left (λ v l.
        if M.holds v then then_go M (body (logged M (t, T ++ (j ∷ [])) (While e) v s g) l) go else goes (logged M (t, T ++ (j ∷ [])) (While e) v s g) l)) go')
    unfolding where_stopped
    loop_step t e b k j T g a zero n h q lt body r go go' f f' = ((t, T ++ (j ∷ [])) ∷ [], runs.round_stops, refl, refl, omega arith)
    loop_step t e b k j T g (Ok v) (suc l) n h q lt body r go go' f f' =
        loop_if t b k j T g (record { content = While e; reads = reads_of M (While e) s g; gave = v; number = M.shown (While e) (state_after M s g) }) l (suc l) n (given t (While e) g v h q) refl (omega (arith, lt)) (M.holds v) refl _ (r _ l) go go' f f'
    loop_step t e b k j T g (Err x) (suc l) n h q lt body r go go' f f' = ((t, T ++ (j ∷ [])) ∷ [], runs.round_stops, refl, (While e, h, q), omega arith)

    loop_has_run : (t : Tag) (e : Expr) (b : Body) (rest : Body) → Says p t (While e)
        → ((T : List ℕ) (g : List (Instance M)) (l : ℕ) → HasRun (skeleton b) 0 T g l (trace M s b T g l))
        → ((T : List ℕ) (g : List (Instance M)) (l : ℕ) → HasRun (skeleton rest) 0 T g l (trace M s rest T g l))
        → (n j : ℕ) (T : List ℕ) (g : List (Instance M)) (left : ℕ) → left < n
        → HasRun (round t (skeleton b) (skeleton rest)) j T g left (then_go M (turns_from M j n t e (trace M s b) s T g left) (trace M s rest T))
    loop_has_run t e b rest h fb fk zero j T g left lt = absurd (omega (arith, lt))
    loop_has_run t e b rest h fb fk (suc n) j T g left lt =
        loop_step t e (skeleton b) (skeleton rest) j T g (M.answer (While e) (state_after M s g)) left n h refl lt (trace M s b (T ++ (j ∷ []))) (λ g' m. fb (T ++ (j ∷ [])) g' m)
        (turns_from M (suc j) n t e (trace M s b) s T) (trace M s rest T) (λ g' m lt'. loop_has_run t e b rest h fb fk n (suc j) T g' m lt') (λ g' m. fk T g' m)

    -- the course of a block is an execution of it
    pub course_has_run : (B : Body) → ((t : Tag) (c : Content) → Says B t c → Says p t c) → (T : List ℕ) (g : List (Instance M)) (left : ℕ)
        → HasRun (skeleton B) 0 T g left (trace M s B T g left)
    course_has_run done inc T g left = ([], runs.ended, refl, omega arith)
    course_has_run (action t d rest) inc T g left =
        let a = content_by d in
        assign_step t a (skeleton rest) T g (M.answer a (state_after M s g)) left (inc t a (inl (refl, refl))) refl _
        (λ v l. course_has_run rest (λ u c h. inc u c (inr h)) T (logged M (t, T) a v s g) l)
    course_has_run (branch t e a b rest) inc T g left =
        branch_step t e (skeleton a) (skeleton b) (skeleton rest) T g (M.answer (If e) (state_after M s g)) left (inc t (If e) (inl (refl, refl))) refl (trace M s a T) (trace M s b T)
        (λ h m. course_has_run a (λ u c q. inc u c (inr (inl q))) T h m) (λ h m. course_has_run b (λ u c q. inc u c (inr (inr (inl q)))) T h m) (trace M s rest T)
        (λ h m. course_has_run rest (λ u c q. inc u c (inr (inr (inr q)))) T h m)
    course_has_run (loop t e b rest) inc T g left =
        loop_has_run t e b rest (inc t (While e) (inl (refl, refl))) (λ T h m. course_has_run b (λ u c q. inc u c (inr (inl q))) T h m)
        (λ T h m. course_has_run rest (λ u c q. inc u c (inr (inr q))) T h m) (left + 1) 0 T g left (omega arith)
