-- Runs over a skeleton alone: which parts a run does, and at which turns. What a part gives is any relation,
-- so nothing here speaks of expressions, and there is no budget: a run may stop at each step.
--
-- Ascending R xs     == each element of the list stands in R to all that come after it
-- Log Value          == what was done: the places with what each gave, the newest first
-- Execution Value truth gives sk k around log steps over log' == a run does the block sk, of which a loop at
--       the head begins with the turn k, under these turns of the loops around the block. The steps are the
--       places in the order in which the run comes to them, the place where it stops last; over says that it
--       came to the end of the block; the log grows from log to log'
use Rattle.std.specs.Prelude.{◌≡◌, ℕ, suc, Bool, true, false, List, [], ◌∷◌, ◌++◌}
use Rattle.std.specs.List.{AllByRecursion}
use Rattle.hpr_terms.specs.declared.tag.Tag.{Tag}
use Rattle.hpr_syntax.specs.Skeleton.{Skeleton, nil, act, fork, round}
use Rattle.hpr_paths.specs.Times.{Place}

abbrev pub Ascending : (Place → Place → Type 0) → List Place → Type 0
Ascending R [] = Unit {0}
Ascending R (x ∷ xs) = AllByRecursion (R x) xs × Ascending R xs

abbrev pub Log : Type 0 → Type 0
Log Value = List (Place × Value)

module _ (Value : Type 0) (truth : Value → Bool) (gives : Tag → List (Place × Value) → Value → Type 0) where
  pub data Execution : Skeleton → ℕ → List ℕ → Log Value → List Place → Bool → Log Value → Type 0 where
    ended : {n : ℕ} {T : List ℕ} {g : Log Value} → Execution nil n T g [] true g
    act_stops : {t : Tag} {n : ℕ} {k : Skeleton} {T : List ℕ} {g : Log Value} → Execution (act t k) n T g ((t, T) ∷ []) false g
    act_goes : {t : Tag} {n : ℕ} {k : Skeleton} {T : List ℕ} {g h : Log Value} {ss : List Place} {e : Bool} (v : Value) → gives t g v
        → Execution k 0 T (((t, T), v) ∷ g) ss e h → Execution (act t k) n T g ((t, T) ∷ ss) e h
    fork_stops : {t : Tag} {n : ℕ} {b c k : Skeleton} {T : List ℕ} {g : Log Value} → Execution (fork t b c k) n T g ((t, T) ∷ []) false g
    yes_stops : {t : Tag} {n : ℕ} {b c k : Skeleton} {T : List ℕ} {g h : Log Value} {ss : List Place} (v : Value) → gives t g v → truth v ≡ true
        → Execution b 0 T (((t, T), v) ∷ g) ss false h → Execution (fork t b c k) n T g ((t, T) ∷ ss) false h
    no_stops : {t : Tag} {n : ℕ} {b c k : Skeleton} {T : List ℕ} {g h : Log Value} {ss : List Place} (v : Value) → gives t g v → truth v ≡ false
        → Execution c 0 T (((t, T), v) ∷ g) ss false h → Execution (fork t b c k) n T g ((t, T) ∷ ss) false h
    yes_goes : {t : Tag} {n : ℕ} {b c k : Skeleton} {T : List ℕ} {g h i : Log Value} {ss rr : List Place} {e : Bool} (v : Value) → gives t g v → truth v ≡ true
        → Execution b 0 T (((t, T), v) ∷ g) ss true h → Execution k 0 T h rr e i → Execution (fork t b c k) n T g ((t, T) ∷ (ss ++ rr)) e i
    no_goes : {t : Tag} {n : ℕ} {b c k : Skeleton} {T : List ℕ} {g h i : Log Value} {ss rr : List Place} {e : Bool} (v : Value) → gives t g v → truth v ≡ false
        → Execution c 0 T (((t, T), v) ∷ g) ss true h → Execution k 0 T h rr e i → Execution (fork t b c k) n T g ((t, T) ∷ (ss ++ rr)) e i
    round_stops : {t : Tag} {n : ℕ} {b k : Skeleton} {T : List ℕ} {g : Log Value} → Execution (round t b k) n T g ((t, T ++ (n ∷ [])) ∷ []) false g
    round_leaves : {t : Tag} {n : ℕ} {b k : Skeleton} {T : List ℕ} {g h : Log Value} {ss : List Place} {e : Bool} (v : Value) → gives t g v → truth v ≡ false
        → Execution k 0 T (((t, T ++ (n ∷ [])), v) ∷ g) ss e h → Execution (round t b k) n T g ((t, T ++ (n ∷ [])) ∷ ss) e h
    body_stops : {t : Tag} {n : ℕ} {b k : Skeleton} {T : List ℕ} {g h : Log Value} {ss : List Place} (v : Value) → gives t g v → truth v ≡ true
        → Execution b 0 (T ++ (n ∷ [])) (((t, T ++ (n ∷ [])), v) ∷ g) ss false h → Execution (round t b k) n T g ((t, T ++ (n ∷ [])) ∷ ss) false h
    body_goes : {t : Tag} {n : ℕ} {b k : Skeleton} {T : List ℕ} {g h i : Log Value} {ss rr : List Place} {e : Bool} (v : Value) → gives t g v → truth v ≡ true
        → Execution b 0 (T ++ (n ∷ [])) (((t, T ++ (n ∷ [])), v) ∷ g) ss true h → Execution (round t b k) (suc n) T h rr e i
        → Execution (round t b k) n T g ((t, T ++ (n ∷ [])) ∷ (ss ++ rr)) e i
