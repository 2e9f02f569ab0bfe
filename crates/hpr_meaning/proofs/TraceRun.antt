-- A trace is the run: it goes on where the run goes on, in the same state, and stops where the run stops.
use Rattle.hpr_meaning.specs.Any.Meaning.{Meaning, Given, HasLaws}
use Rattle.std.proofs.Common.{◌≡◌, ℕ, zero, suc, ◌+◌, Bool, true, false, List, [], ◌∷◌, ◌++◌, Some, None, refl, ap, ◌∙◌, if◌then◌else◌, Ok, Err}
use Rattle.hpr_terms.specs.declared.tag.Tag.{Tag}
use Rattle.hpr_terms.specs.declared.expr.Expr.{Expr}
use Rattle.hpr_syntax.specs.declared.rows.Content.TheVariants.{If, While}
use Rattle.hpr_syntax.specs.Rows.{content_by}
use Rattle.hpr_syntax.specs.Body.{Body, done, action, branch, loop}
use Rattle.hpr_meaning.specs.Any.Run.{After, run_body}
use Rattle.hpr_meaning.specs.Any.Run as run
use Rattle.hpr_paths.specs.Times.{Place}
use Rattle.hpr_meaning.specs.Any.Instances.{Instance, state_after, logged, Course, goes, stops, step_at, then_go, turns_from, trace, after_of}

module _ (M : Meaning) (LW : HasLaws M) where
  step_run : (s : M.State) (a : Place) (answer : Given M) (log : List (Instance M)) (left : ℕ) (go : M.Value → ℕ → Course M) (go' : M.Value → ℕ → After M)
      → ((v : M.Value) (l : ℕ) → after_of M s (go v l) ≡ go' v l) → after_of M s (step_at M a answer log left go) ≡ run.step M a.0 answer left go'
  step_run s a answer log zero go go' h = refl
  step_run s a (Ok v) log (suc left) go go' h = h v left
  step_run s a (Err f) log (suc left) go go' h = refl

  then_run : (s : M.State) (x : Course M) (y : After M) (go : List (Instance M) → ℕ → Course M) (go' : M.State → ℕ → After M)
      → after_of M s x ≡ y → ((log : List (Instance M)) (l : ℕ) → after_of M s (go log l) ≡ go' (state_after M s log) l) → after_of M s (then_go M x go) ≡ run.then_go M y go'
  then_run s (goes log left) y go go' e h = h log left ∙ ap (λ z. run.then_go M z go') e
  then_run s (stops a None log left) y go go' e h = ap (λ z. run.then_go M z go') e
  then_run s (stops a (Some f) log left) y go go' e h = ap (λ z. run.then_go M z go') e

  if_run : (s : M.State) (b : Bool) (x y : Course M) (x' y' : After M) → after_of M s x ≡ x' → after_of M s y ≡ y' → after_of M s (if b then x else y) ≡ (if b then x' else y')
  if_run s true x y x' y' p q = p
  if_run s false x y x' y' p q = q

  turns_run : (s : M.State) (k n : ℕ) (t : Tag) (e : Expr) (body : List ℕ → List (Instance M) → ℕ → Course M) (body' : M.State → ℕ → After M)
      → ((around : List ℕ) (log : List (Instance M)) (l : ℕ) → after_of M s (body around log l) ≡ body' (state_after M s log) l)
      → (around : List ℕ) (log : List (Instance M)) (left : ℕ)
      → after_of M s (turns_from M k n t e body s around log left) ≡ run.turns M n t e body' (state_after M s log) left
  turns_run s k zero t e body body' h around log left = refl
  turns_run s k (suc n) t e body body' h around log left =
      step_run s (t, around ++ k ∷ []) (M.answer (While e) (state_after M s log)) log left _ _ (λ v l.
      if_run s (M.holds v) _ _ _ _
      (then_run s (body (around ++ k ∷ []) (logged M (t, around ++ k ∷ []) (While e) v s log) l) _ _ _ (h _ _ l)
      (λ log' l'. turns_run s (suc k) n t e body body' h around log' l'))
      refl)

  pub trace_run : (s : M.State) (b : Body) (around : List ℕ) (log : List (Instance M)) (left : ℕ)
      → after_of M s (trace M s b around log left) ≡ run_body M b (state_after M s log) left
  trace_run s done around log left = refl
  trace_run s (action t d rest) around log left =
      let a = content_by d in
      step_run s (t, around) (M.answer a (state_after M s log)) log left _ _ (λ v l. trace_run s rest around (logged M (t, around) a v s log) l)
  trace_run s (branch t e a b rest) around log left =
      step_run s (t, around) (M.answer (If e) (state_after M s log)) log left _ _ (λ v l.
      then_run s (if M.holds v then trace M s a around (logged M (t, around) (If e) v s log) l else trace M s b around (logged M (t, around) (If e) v s log) l) _ _ _
      (if_run s (M.holds v) _ _ _ _ (trace_run s a around (logged M (t, around) (If e) v s log) l) (trace_run s b around (logged M (t, around) (If e) v s log) l))
      (λ log' l'. trace_run s rest around log' l'))
  trace_run s (loop t e b rest) around log left =
      then_run s (turns_from M 0 (left + 1) t e (trace M s b) s around log left) _ _ _
      (turns_run s 0 (left + 1) t e (trace M s b) (run_body M b) (trace_run s b) around log left) (λ log' l'. trace_run s rest around log' l')
