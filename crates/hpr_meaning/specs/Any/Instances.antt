-- The instances of a run, whatever the contents mean: its finished steps in their order (Reps and Yang 1988).
-- What a run did is kept in a log, its newest step first; the state is what the log makes of the first state.
--
-- Read                  == a name that a step reads, the value, and the step that last defined the name: its
--                          place and what it says; none where the value is the initial one
-- Did                   == what was done at a place: the content, the reads, what it gave, and what the step
--                          shows
-- Instance              == a place, and what was done there
-- truth d               == whether what was given is true
-- state_after s log     == the state from s on after the log
-- definer x log         == the step that last defined the name x
-- put_name x names      == the name among these, which ascend, each once
-- put_names names       == these names, ascending, each once
-- names_of c            == the names that a part uses that says c, ascending, each once
-- read_of s log x       == the read of x after the log
-- reads_of c s log      == the reads of a part that says c, ascending by name
-- logged a c v s log    == the log with a step at the place a, where the content c gave v
-- Course                == where a run is after some statements: it goes on with a log and some steps left,
--                          or it stopped at a place, for a fault or for want of steps
-- step_at a answer log left go == one step at the place a, if a step is left; go says what follows
-- then_go course go     == what follows, where the run goes on
-- turns_from k n t e body s around log left == at most n turns of the loop t with the predicate e, from the
--                                              turn k on, under the turns `around`
-- trace s body around log left == a block, under the turns `around`, after the log, with so many steps left
-- log_of course         == the log
-- stop_of course        == the place where the run stopped
-- after_of s course     == what a run from s sees of it: the state, the steps left, and the part and the
--                          fault of a stop
-- course_of p s n       == the whole run of the program p from the state s with n steps to spend
-- instances p s n       == its finished steps, in their order
-- IsStopOf p s n a      == the run stops at the place a, for a fault or for want of steps
use Rattle.hpr_meaning.specs.Any.Meaning.{Meaning, Given, next}
use Rattle.std.specs.Prelude.{◌≡◌, ℕ, zero, suc, ◌+◌, Bool, if◌then◌else◌, List, [], ◌∷◌, ◌++◌, map, reverse, Option, Some, None, Ok, Err}
use Rattle.hpr_terms.specs.declared.tag.Tag.{Tag}
use Rattle.hpr_terms.specs.declared.expr.Expr.{Expr}
use Rattle.hpr_syntax.specs.declared.rows.Content.{Content}
use Rattle.hpr_syntax.specs.declared.rows.Content.TheVariants.{If, While}
use Rattle.hpr_syntax.specs.Body.{Body, done, action, branch, loop}
use Rattle.hpr_syntax.specs.Tree.{Tree}
use Rattle.hpr_syntax.specs.Rows.{content_by, assigned}
use Rattle.hpr_meaning.specs.Any.Run.{After}
use Rattle.hpr_meaning.specs.Any.Run as after
use Rattle.hpr_paths.specs.Times.{Place}
use Rattle.hpr_graph.specs.Order.{name_cmp}
use Rattle.std.specs.Ordering.{is_lt, is_eq}
use Rattle.hpr_syntax.specs.Contents.{used_names}

-- the step at a place that defines y, if y is x; else an older one
abbrev pub with_definer : Option (List ℕ) → Place × Content → List ℕ → Option (Place × Content) → Option (Place × Content)
with_definer None step x older = older
with_definer (Some y) step x older = if is_eq (name_cmp x y) then Some step else older

abbrev pub put_name : List ℕ → List (List ℕ) → List (List ℕ)
put_name x [] = x ∷ []
put_name x (y ∷ names) =
    if is_lt (name_cmp x y) then x ∷ y ∷ names else (if is_eq (name_cmp x y) then y ∷ names else y ∷ put_name x names)

abbrev pub put_names : List (List ℕ) → List (List ℕ)
put_names [] = []
put_names (x ∷ names) = put_name x (put_names names)

abbrev pub names_of : Content → List (List ℕ)
names_of c = put_names (used_names c)

pub record Read (M : Meaning) : Type 0 where
  pub name : List ℕ
  pub value : M.Value
  pub origin : Option (Place × Content)

pub record Did (M : Meaning) : Type 0 where
  pub content : Content
  pub reads : List (Read M)
  pub gave : M.Value
  pub number : M.Shown

module _ (M : Meaning) where
  abbrev pub Instance : Type 0
  Instance = Place × Did M

  abbrev pub truth : Did M → Bool
  truth d = M.holds d.gave

  abbrev pub state_after : M.State → List Instance → M.State
  state_after s [] = s
  state_after s (i ∷ log) = next M i.1.content i.1.gave (state_after s log)

  abbrev pub definer : List ℕ → List Instance → Option (Place × Content)
  definer x [] = None
  definer x (i ∷ log) = with_definer (assigned i.1.content) (i.0, i.1.content) x (definer x log)

  abbrev pub read_of : M.State → List Instance → List ℕ → Read M
  read_of s log x = record { name = x; value = M.get (state_after s log) x; origin = definer x log }

  abbrev pub reads_of : Content → M.State → List Instance → List (Read M)
  reads_of c s log = map (read_of s log) (names_of c)

  abbrev pub logged : Place → Content → M.Value → M.State → List Instance → List Instance
  logged a c v s log = (a, record { content = c; reads = reads_of c s log; gave = v; number = M.shown c (state_after s log) }) ∷ log

pub data Course (M : Meaning) : Type 0 where
  goes : (log : List (Instance M)) → (left : ℕ) → Course M
  stops : (place : Place) → (why : Option M.Fault) → (log : List (Instance M)) → (left : ℕ) → Course M

module _ (M : Meaning) where
  abbrev pub step_at : Place → Given M → List (Instance M) → ℕ → (M.Value → ℕ → Course M) → Course M
  step_at a answer log zero go = stops a None log zero
  step_at a (Ok v) log (suc left) go = go v left
  step_at a (Err f) log (suc left) go = stops a (Some f) log left

  abbrev pub then_go : Course M → (List (Instance M) → ℕ → Course M) → Course M
  then_go (goes log left) go = go log left
  then_go (stops a why log left) go = stops a why log left

  abbrev pub turns_from : ℕ → ℕ → Tag → Expr → (List ℕ → List (Instance M) → ℕ → Course M) → M.State → List ℕ → List (Instance M) → ℕ → Course M
  turns_from k zero t e body s around log left = stops (t, around ++ k ∷ []) None log left
  turns_from k (suc n) t e body s around log left =
      step_at (t, around ++ k ∷ []) (M.answer (While e) (state_after M s log)) log left (λ v left'.
      if M.holds v
      then then_go (body (around ++ k ∷ []) (logged M (t, around ++ k ∷ []) (While e) v s log) left') (turns_from (suc k) n t e body s around)
      else goes (logged M (t, around ++ k ∷ []) (While e) v s log) left')

  -- A loop makes no more turns than it has steps, and one to see that none is left.
  abbrev pub trace : M.State → Body → List ℕ → List (Instance M) → ℕ → Course M
  trace s done around log left = goes log left
  trace s (action t d rest) around log left =
      let c = content_by d in
      step_at (t, around) (M.answer c (state_after M s log)) log left (λ v left'.
      trace s rest around (logged M (t, around) c v s log) left')
  trace s (branch t e a b rest) around log left =
      step_at (t, around) (M.answer (If e) (state_after M s log)) log left (λ v left'.
      then_go
      (if M.holds v
      then trace s a around (logged M (t, around) (If e) v s log) left'
      else trace s b around (logged M (t, around) (If e) v s log) left')
      (trace s rest around))
  trace s (loop t e b rest) around log left = then_go (turns_from 0 (left + 1) t e (trace s b) s around log left) (trace s rest around)

  abbrev pub log_of : Course M → List (Instance M)
  log_of (goes log left) = log
  log_of (stops a why log left) = log

  abbrev pub stop_of : Course M → Option Place
  stop_of (goes log left) = None
  stop_of (stops a why log left) = Some a

  abbrev pub after_of : M.State → Course M → After M
  after_of s (goes log left) = after.goes (state_after M s log) left
  after_of s (stops a None log left) = after.spent
  after_of s (stops a (Some f) log left) = after.stops a.0 f left

  abbrev pub course_of : Tree → M.State → ℕ → Course M
  course_of p s n = trace s p.body [] [] n

  abbrev pub instances : Tree → M.State → ℕ → List (Instance M)
  instances p s n = reverse (log_of (course_of p s n))

  abbrev pub IsStopOf : Tree → M.State → ℕ → Place → Type 0
  IsStopOf p s n a = stop_of (course_of p s n) ≡ Some a
