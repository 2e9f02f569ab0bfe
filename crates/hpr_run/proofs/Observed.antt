-- Laws of observed runs: an observer changes nothing, and what the code does with a block and a loop, part by part and turn by turn.
use Rattle.std.proofs.Common.{subst, sym, ◌≡◌, ℕ, ℤ, zero, suc, ◌+◌, ◌-◌, ◌<◌, ◌∷◌, List, length, get_or, drop, drop-cons, Bool, true, false, refl, ap, ◌∙◌, arith, add-one, if◌then◌else◌, Result, Ok, Err}
use Rattle.hpr_terms.specs.declared.tag.Tag.{Tag}
use Rattle.hpr_terms.specs.declared.expr.Expr.{Expr}
use Rattle.hpr_syntax.specs.declared.tree.Stmt.{Stmt}
use Rattle.hpr_syntax.specs.declared.tree.Stmt.TheVariants.{Assign, If, While, Write, Store}
use Rattle.hpr_syntax.specs.declared.rows.Content.TheVariants as content
use Rattle.hpr_syntax.specs.BodyOf.{before, body_of}
use Rattle.hpr_syntax.specs.Parts.{tag_of, expr_of}
use Rattle.hpr_syntax.specs.Rows.{content_by, content_of, assigned}
use Rattle.hpr_syntax.specs.Contents.{Given, answer_of, next_state, holds, shown_of}
use Rattle.hpr_syntax.specs.Body.{Body, done, action, branch, loop}
use Rattle.hpr_syntax.specs.Tree.{Tree}
use Rattle.hpr_syntax.specs.declared.value.Value.{Value}
use Rattle.hpr_syntax.specs.Values.{Values, put}
use Rattle.hpr_syntax.specs.Value.{is_true}
use Rattle.hpr_syntax.specs.Run.{After, step, then_go, turns, run_body, faults, more, outcome, run}
use Rattle.hpr_run.specs.declared.values.Fault.{Fault}
use Rattle.hpr_run.specs.declared.interpreter.Stop.{Stop}
use Rattle.hpr_run.specs.declared.interpreter.Stop.TheVariants.{Faulty, Spent, Memory}
use Rattle.hpr_run.specs.Acts.{given}
use Rattle.hpr_run.specs.Faults.{fault_of}
use Rattle.hpr_run.specs.Outcomes.{Did, Stepped}
use Rattle.hpr_run.specs.Observed.{Observing, Way, goes, stops, spent, step_way, then_way, walk_turns, after_action, walk, after_in, known_in}

-- without its observer, an observed run is the run
step_after : {O : Type 0} (t : Tag) (a : Given) (o : O) (left : ℕ) (f : Value → ℕ → Way O) (g : Value → ℕ → After)
    → ((v : Value) (l : ℕ) → after_in (f v l) ≡ g v l) → after_in (step_way t a o left f) ≡ step t a left g
step_after t a o zero f g h = refl
step_after t (Ok v) o (suc l) f g h = h v l
step_after t (Err e) o (suc l) f g h = refl

then_after : {O : Type 0} (x : Way O) (y : After) (f : O → Values → ℕ → Way O) (g : Values → ℕ → After)
    → after_in x ≡ y → ((o : O) (s : Values) (l : ℕ) → after_in (f o s l) ≡ g s l) → after_in (then_way x f) ≡ then_go y g
then_after (goes o s l) y f g e h = h o s l ∙ ap (λ z. then_go z g) e
then_after (stops t fault o l) y f g e h = ap (λ z. then_go z g) e
then_after (spent o) y f g e h = ap (λ z. then_go z g) e

if_after : {O : Type 0} (b : Bool) (x y : Way O) (x' y' : After) → after_in x ≡ x' → after_in y ≡ y' → after_in (if b then x else y) ≡ (if b then x' else y')
if_after true x y x' y' p q = p
if_after false x y x' y' p q = q

module _ {O A : Type 0} (w : Observing O A) where
  turns_after : (k n : ℕ) (t : Tag) (e : Expr) (body : A → O → Values → ℕ → Way O) (body' : Values → ℕ → After)
      → ((a : A) (o : O) (s : Values) (l : ℕ) → after_in (body a o s l) ≡ body' s l)
      → (a : A) (o : O) (s : Values) (left : ℕ) → after_in (walk_turns w k n t e body a o s left) ≡ turns n t e body' s left
  turns_after k zero t e body body' h a o s left = refl
  turns_after k (suc n) t e body body' h a o s left = step_after t (answer_of (content.While e) s) o left _ _ (λ v l.
      let told = w.told (w.in_turn a k) t (content.While e) (shown_of (content.While e) s) s o in
      if_after (holds v) _ _ _ _
      (then_after (body (w.in_turn a k) told s l) _ _ _ (h (w.in_turn a k) told s l) (λ o' s' l'. turns_after (suc k) n t e body body' h a o' s' l'))
      refl)

  pub walk_after : (b : Body) (a : A) (o : O) (s : Values) (left : ℕ) → after_in (walk w b a o s left) ≡ run_body b s left
  walk_after done a o s left = refl
  walk_after (action t d rest) a o s left = let says = content_by d in step_after t (answer_of says s) o left _ _ (λ v l.
      walk_after rest a (after_action w (assigned says) (w.told a t says (shown_of says s) s o)) (next_state says v s) l)
  walk_after (branch t e b c rest) a o s left = step_after t (answer_of (content.If e) s) o left _ _ (λ v l.
      let told = w.told a t (content.If e) (shown_of (content.If e) s) s o in
      then_after (if holds v then walk w b a told s l else walk w c a told s l) _ _ _
      (if_after (holds v) _ _ _ _ (walk_after b a told s l) (walk_after c a told s l))
      (λ o' s' l'. walk_after rest a o' s' l'))
  walk_after (loop t e b rest) a o s left =
      then_after (walk_turns w 0 (left + 1) t e (walk w b) a o s left) _ _ _
      (turns_after 0 (left + 1) t e (walk w b) (run_body b) (walk_after b) a o s left) (λ o' s' l'. walk_after rest a o' s' l')

  -- the outcome of a run, by the way that its body went
  pub outcome_at : (p : Tree) (b : Body) (a : A) (o : O) (s s' : Values) (n : ℕ) → b ≡ p.body → s ≡ s' → (way : Way O) → walk w b a o s n ≡ way
      → outcome p.finals n (after_in way) ≡ run p s' n
  outcome_at p b a o s s' n body same way is =
      ap (outcome p.finals n) (sym (ap after_in is) ∙ walk_after b a o s n ∙ ap (λ c. run_body c s n) body ∙ ap (λ x. run_body p.body x n) same)

  pub spent_at : (p : Tree) (b : Body) (a : A) (o : O) (s s' : Values) (n : ℕ) → b ≡ p.body → s ≡ s' → (stop : Stop) → stop ≡ Spent
      → (o' : O) (s'' : Values) (left : ℕ) → Did (Err stop) (walk w b a o s n) o' s'' left → more n ≡ run p s' n
  spent_at p b a o s s' n body same stop is o' s'' left did =
      outcome_at p b a o s s' n body same (spent o') (subst (λ (x : Stop). Did (Err x) (walk w b a o s n) o' s'' left) is did)

  pub faulted_at : (p : Tree) (b : Body) (a : A) (o : O) (s s' : Values) (n : ℕ) → b ≡ p.body → s ≡ s' → (stop : Stop) (t t' : Tag) (f f' : Fault) → stop ≡ Faulty t f
      → t' ≡ t → f' ≡ f → (o' : O) (s'' : Values) (left : ℕ) → Did (Err stop) (walk w b a o s n) o' s'' left → faults t' (fault_of f') (n - left) ≡ run p s' n
  faulted_at p b a o s s' n body same stop t t' f f' is tag fault o' s'' left did =
      ap (λ (u : Tag). faults u (fault_of f') (n - left)) tag
      ∙ ap (λ (g : Fault). faults t (fault_of g) (n - left)) fault
      ∙ outcome_at p b a o s s' n body same (stops t (fault_of f) o' left) (subst (λ (x : Stop). Did (Err x) (walk w b a o s n) o' s'' left) is did)

  -- what the observer knows at the end of a run
  module _ (b b' : Body) (a : A) (o : O) (s s' : Values) (n : ℕ) (body : b ≡ b') (same : s ≡ s') where
    pub knows : (way : Way O) → walk w b a o s n ≡ way → known_in way ≡ known_in (walk w b' a o s' n)
    knows way is = ap known_in (sym is) ∙ (λ k. known_in (walk w (body k) a o (same k) n))

    pub knows_stopped : (stop : Stop) (t : Tag) (f : Fault) → stop ≡ Faulty t f → (o' : O) (s'' : Values) (left : ℕ) → Did (Err stop) (walk w b a o s n) o' s'' left
        → o' ≡ known_in (walk w b' a o s' n)
    knows_stopped stop t f is o' s'' left did =
        knows (stops t (fault_of f) o' left) (subst (λ (x : Stop). Did (Err x) (walk w b a o s n) o' s'' left) is did)

    pub knows_spent : (stop : Stop) → stop ≡ Spent → (o' : O) (s'' : Values) (left : ℕ) → Did (Err stop) (walk w b a o s n) o' s'' left → o' ≡ known_in (walk w b' a o s' n)
    knows_spent stop is o' s'' left did = knows (spent o') (subst (λ (x : Stop). Did (Err x) (walk w b a o s n) o' s'' left) is did)

-- what follows a part that stopped is not reached
step_ends : {O : Type 0} (t : Tag) (a : Given) (o : O) (left : ℕ) (f : Value → ℕ → Way O) (go : O → Values → ℕ → Way O)
    → step_way t a o left (λ v l. then_way (f v l) go) ≡ then_way (step_way t a o left f) go
step_ends t a o zero f go = refl
step_ends t (Ok v) o (suc l) f go = refl
step_ends t (Err e) o (suc l) f go = refl

step_same : {O : Type 0} (t : Tag) (a : Given) (o : O) (left : ℕ) (f g : Value → ℕ → Way O) → ((v : Value) (l : ℕ) → f v l ≡ g v l) → step_way t a o left f ≡ step_way t a o left g
step_same t a o zero f g h = refl
step_same t (Ok v) o (suc l) f g h = h v l
step_same t (Err e) o (suc l) f g h = refl

then_then : {O : Type 0} (x : Way O) (f g : O → Values → ℕ → Way O) → then_way x (λ o s l. then_way (f o s l) g) ≡ then_way (then_way x f) g
then_then (goes o s l) f g = refl
then_then (stops t fault o l) f g = refl
then_then (spent o) f g = refl

-- r is what a step of the part x gave
abbrev pub Takes : {O A : Type 0} → Observing O A → Result ℤ Stop → Stmt → A → O → Values → ℕ → O → ℕ → Type 0
Takes w r x a o s l o' l' = Stepped r (tag_of x) (answer_of (content_of x) s) (given (content_of x) s) (w.told a (tag_of x) (content_of x) (shown_of (content_of x) s) s o) o l o' l'

module _ {O A : Type 0} (w : Observing O A) where
  walk_before : (x : Stmt) (rest : Body) (a : A) (o : O) (s : Values) (left : ℕ)
      → walk w (before x rest) a o s left ≡ then_way (walk w (before x done) a o s left) (walk w rest a)
  walk_before (Assign t x e) rest a o s left = step_ends t (answer_of (content.Assign x e) s) o left
      (λ v l. goes (w.assigned x (w.told a t (content.Assign x e) (shown_of (content.Assign x e) s) s o)) (put s x v) l) (walk w rest a)
  walk_before (Write t x e) rest a o s left = step_ends t (answer_of (content.Write x e) s) o left
      (λ v l. goes (w.assigned x (w.told a t (content.Write x e) (shown_of (content.Write x e) s) s o)) (put s x v) l) (walk w rest a)
  walk_before (Store t x i e) rest a o s left = step_ends t (answer_of (content.Store x i e) s) o left
      (λ v l. goes (w.assigned x (w.told a t (content.Store x i e) (shown_of (content.Store x i e) s) s o)) (put s x v) l) (walk w rest a)
  walk_before (If t e b c) rest a o s left =
      let told : O = w.told a t (content.If e) (shown_of (content.If e) s) s o in
      let chosen : Value → ℕ → Way O = λ v l. if holds v then walk w b a told s l else walk w c a told s l in
      step_same t (answer_of (content.If e) s) o left _ _ (λ v l. then_then (chosen v l) goes (walk w rest a))
      ∙ step_ends t (answer_of (content.If e) s) o left (λ v l. then_way (chosen v l) goes) (walk w rest a)
  walk_before (While t e b) rest a o s left = then_then (walk_turns w 0 (left + 1) t e (walk w b) a o s left) goes (walk w rest a)

  -- what a part's failure says of the block that begins with it
  stopped_before : (stop : Stop) (x : Stmt) (rest : Body) (a : A) (o : O) (s : Values) (left : ℕ) (o' : O) (s' : Values) (left' : ℕ)
      → Did (Err stop) (walk w (before x done) a o s left) o' s' left' → Did (Err stop) (walk w (before x rest) a o s left) o' s' left'
  stopped_before Memory x rest a o s left o' s' left' d = tt
  stopped_before Spent x rest a o s left o' s' left' d = walk_before x rest a o s left ∙ ap (λ y. then_way y (walk w rest a)) d
  stopped_before (Faulty t f) x rest a o s left o' s' left' d = walk_before x rest a o s left ∙ ap (λ y. then_way y (walk w rest a)) d

  module _ (xs : List Stmt) (i : ℕ) (x : Stmt) (lt : i < length xs) (is : x ≡ get_or xs i x) (whole : Way O) (a : A) (o : O) (s : Values) (left : ℕ)
      (so_far : whole ≡ walk w (body_of (drop i xs)) a o s left) where
    whole_before : whole ≡ walk w (before x (body_of (drop (i + 1) xs))) a o s left
    whole_before =
        let first : drop i xs ≡ x ∷ drop (i + 1) xs = rw add-one (drop-cons xs i x lt ∙ ap (λ (y : Stmt). y ∷ drop (suc i) xs) (sym is)) in
        let apart : body_of (drop i xs) ≡ before x (body_of (drop (i + 1) xs)) = ap body_of first in
        so_far ∙ ap (λ (b : Body). walk w b a o s left) apart

    -- a statement of a block that stopped the run
    pub failed_in : (stop : Stop) (o' : O) (s' : Values) (left' : ℕ) → Did (Err stop) (walk w (before x done) a o s left) o' s' left' → Did (Err stop) whole o' s' left'
    failed_in stop o' s' left' did =
        subst (λ (y : Way O). Did (Err stop) y o' s' left') (sym whole_before) (stopped_before stop x (body_of (drop (i + 1) xs)) a o s left o' s' left' did)

    -- and one that did not
    pub done_in : (o' : O) (s' : Values) (left' : ℕ) → walk w (before x done) a o s left ≡ goes o' s' left' → whole ≡ walk w (body_of (drop (i + 1) xs)) a o' s' left'
    done_in o' s' left' did =
        let rest = body_of (drop (i + 1) xs) in
        whole_before ∙ walk_before x rest a o s left ∙ ap (λ y. then_way y (walk w rest a)) did

  -- the turn k of a loop that may make `most` of them
  module _ (x : Stmt) (t : Tag) (e : Expr) (b : Body) (shape : x ≡ While t e b) (a : A) (most k : ℕ) (lt : k < most) (whole : Way O) (o : O) (s : Values) (l : ℕ)
      (so_far : whole ≡ walk_turns w k (most - k) t e (walk w b) a o s l) (inside : A) (at : inside ≡ w.in_turn a k) where
    one_more : whole ≡ walk_turns w k (suc (most - (k + 1))) t e (walk w b) a o s l
    one_more = let n : most - k ≡ suc (most - (k + 1)) = omega arith in so_far ∙ ap (λ (m : ℕ). walk_turns w k m t e (walk w b) a o s l) n

    module _ (z : ℤ) (o' : O) (l' : ℕ) (stepped : Takes w (Ok z) x inside o s l o' l') where
      here : Takes w (Ok z) (While t e b) inside o s l o' l'
      here = subst (λ y. Takes w (Ok z) y inside o s l o' l') shape stepped

      seen : o' ≡ w.told (w.in_turn a k) t (content.While e) (shown_of (content.While e) s) s o
      seen = here.2 ∙ ap (λ (y : A). w.told y t (content.While e) (shown_of (content.While e) s) s o) at

      turn : is_true z ≡ true → whole ≡ then_way (walk w b inside o' s l') (walk_turns w (k + 1) (most - (k + 1)) t e (walk w b) a)
      turn holds =
          let m = most - (k + 1) in
          let next : k + 1 ≡ suc k = omega arith in
          let first : walk_turns w k (suc m) t e (walk w b) a o s l
          ≡ then_way (walk w b (w.in_turn a k) (w.told (w.in_turn a k) t (content.While e) (shown_of (content.While e) s) s o) s l') (walk_turns w (suc k) m t e (walk w b) a) = rw (here.0, here.1, holds) refl in
          one_more
          ∙ first
          ∙ ap (λ (y : O). then_way (walk w b (w.in_turn a k) y s l') (walk_turns w (suc k) m t e (walk w b) a)) (sym seen)
          ∙ ap (λ (y : A). then_way (walk w b y o' s l') (walk_turns w (suc k) m t e (walk w b) a)) (sym at)
          ∙ ap (λ (n : ℕ). then_way (walk w b inside o' s l') (walk_turns w n m t e (walk w b) a)) (sym next)

      -- it goes on behind the block
      pub turn_done : is_true z ≡ true → (o'' : O) (s'' : Values) (l'' : ℕ) → walk w b inside o' s l' ≡ goes o'' s'' l''
          → whole ≡ walk_turns w (k + 1) (most - (k + 1)) t e (walk w b) a o'' s'' l''
      turn_done holds o'' s'' l'' d = turn holds ∙ ap (λ y. then_way y (walk_turns w (k + 1) (most - (k + 1)) t e (walk w b) a)) d

      -- it stops where its block stops
      pub turn_failed : is_true z ≡ true → (stop : Stop) (o'' : O) (s'' : Values) (l'' : ℕ) → Did (Err stop) (walk w b inside o' s l') o'' s'' l'' → Did (Err stop) whole o'' s'' l''
      turn_failed holds Memory o'' s'' l'' d = tt
      turn_failed holds Spent o'' s'' l'' d = turn holds ∙ ap (λ y. then_way y (walk_turns w (k + 1) (most - (k + 1)) t e (walk w b) a)) d
      turn_failed holds (Faulty u f) o'' s'' l'' d = turn holds ∙ ap (λ y. then_way y (walk_turns w (k + 1) (most - (k + 1)) t e (walk w b) a)) d

      -- the loop ends where its predicate is false
      pub turn_last : is_true z ≡ false → whole ≡ goes o' s l'
      turn_last off =
          let last : walk_turns w k (suc (most - (k + 1))) t e (walk w b) a o s l ≡ goes (w.told (w.in_turn a k) t (content.While e) (shown_of (content.While e) s) s o) s l' = rw (here.0, here.1, off) refl in
          one_more ∙ last ∙ ap (λ (y : O). goes y s l') (sym seen)

    -- it stops where its predicate has no value
    stopped_here : (stop : Stop) (o' : O) (l' : ℕ) → Takes w (Err stop) (While t e b) inside o s l o' l' → Did (Err stop) whole o' s l'
    stopped_here Memory o' l' d = tt
    stopped_here Spent o' l' (none, known) = one_more ∙ ap (λ (n : ℕ). walk_turns w k (suc (most - (k + 1))) t e (walk w b) a o s n) none ∙ ap (λ (y : O). spent y) (sym known)
    stopped_here (Faulty u f) o' l' (one, tag, is, known) =
        let stop : walk_turns w k (suc (most - (k + 1))) t e (walk w b) a o s l ≡ stops t (fault_of f) o l' = rw (one, is) refl in
        one_more ∙ stop ∙ ap (λ (y : Tag). stops y (fault_of f) o l') tag ∙ ap (λ (y : O). stops u (fault_of f) y l') (sym known)

    pub turn_stopped : (stop : Stop) (o' : O) (l' : ℕ) → Takes w (Err stop) x inside o s l o' l' → Did (Err stop) whole o' s l'
    turn_stopped stop o' l' d = stopped_here stop o' l' (subst (λ y. Takes w (Err stop) y inside o s l o' l') shape d)

then_goes : {O : Type 0} (x : Way O) → then_way x goes ≡ x
then_goes (goes o s l) = refl
then_goes (stops t f o l) = refl
then_goes (spent o) = refl

-- a conditional by itself
module _ {O A : Type 0} (w : Observing O A) (t : Tag) (e : Expr) (b c : Body) (a : A) (o : O) (s : Values) (l : ℕ) where
  if_stopped : (stop : Stop) (o' : O) (l' : ℕ) → Takes w (Err stop) (If t e b c) a o s l o' l' → Did (Err stop) (walk w (branch t e b c done) a o s l) o' s l'
  if_stopped Memory o' l' d = tt
  if_stopped Spent o' l' (none, known) = ap (λ (n : ℕ). walk w (branch t e b c done) a o s n) none ∙ ap (λ (y : O). spent y) (sym known)
  if_stopped (Faulty u f) o' l' (one, tag, is, known) =
      let stop : walk w (branch t e b c done) a o s l ≡ stops t (fault_of f) o l' = rw (one, is) refl in
      stop ∙ ap (λ (y : Tag). stops y (fault_of f) o l') tag ∙ ap (λ (y : O). stops u (fault_of f) y l') (sym known)

  module _ (z : ℤ) (o' : O) (l' : ℕ) (stepped : Takes w (Ok z) (If t e b c) a o s l o' l') where
    if_goes : (k : Bool) → is_true z ≡ k → walk w (branch t e b c done) a o s l ≡ (if k then walk w b a o' s l' else walk w c a o' s l')
    if_goes true holds =
        let first : walk w (branch t e b c done) a o s l ≡ then_way (walk w b a (w.told a t (content.If e) (shown_of (content.If e) s) s o) s l') goes = rw (stepped.0, stepped.1, holds) refl in
        first ∙ then_goes (walk w b a (w.told a t (content.If e) (shown_of (content.If e) s) s o) s l') ∙ ap (λ (y : O). walk w b a y s l') (sym stepped.2)
    if_goes false off =
        let first : walk w (branch t e b c done) a o s l ≡ then_way (walk w c a (w.told a t (content.If e) (shown_of (content.If e) s) s o) s l') goes = rw (stepped.0, stepped.1, off) refl in
        first ∙ then_goes (walk w c a (w.told a t (content.If e) (shown_of (content.If e) s) s o) s l') ∙ ap (λ (y : O). walk w c a y s l') (sym stepped.2)

module _ {O A : Type 0} (w : Observing O A) (x : Stmt) (t : Tag) (e : Expr) (b c : Body) (shape : x ≡ If t e b c) (a : A) (o : O) (s : Values) (l : ℕ) where
  pub branch_stopped : (stop : Stop) (o' : O) (l' : ℕ) → Takes w (Err stop) x a o s l o' l' → Did (Err stop) (walk w (before x done) a o s l) o' s l'
  branch_stopped stop o' l' d =
      subst (λ (y : Stmt). Did (Err stop) (walk w (before y done) a o s l) o' s l') (sym shape)
      (if_stopped w t e b c a o s l stop o' l' (subst (λ y. Takes w (Err stop) y a o s l o' l') shape d))

  pub branch_goes : (z : ℤ) (o' : O) (l' : ℕ) → Takes w (Ok z) x a o s l o' l' → (k : Bool) → is_true z ≡ k
      → (r : Result (Unit {0}) Stop) (o'' : O) (s'' : Values) (l'' : ℕ) → Did r (if k then walk w b a o' s l' else walk w c a o' s l') o'' s'' l''
      → Did r (walk w (before x done) a o s l) o'' s'' l''
  branch_goes z o' l' stepped k is r o'' s'' l'' did =
      let same = if_goes w t e b c a o s l z o' l' (subst (λ y. Takes w (Ok z) y a o s l o' l') shape stepped) k is in
      subst (λ (y : Way O). Did r y o'' s'' l'') (sym (ap (λ (y : Stmt). walk w (before y done) a o s l) shape ∙ same)) did

-- a loop by itself
pub loop_goes : {O A : Type 0} (w : Observing O A) (x : Stmt) (t : Tag) (e : Expr) (b : Body) → x ≡ While t e b → (a : A) (o : O) (s : Values) (l : ℕ)
    → (r : Result (Unit {0}) Stop) (o' : O) (s' : Values) (l' : ℕ) → Did r (walk_turns w 0 (l + 1) (tag_of x) (expr_of x) (walk w b) a o s l) o' s' l'
    → Did r (walk w (before x done) a o s l) o' s' l'
loop_goes {O} w x t e b shape a o s l r o' s' l' did =
    let turns : Way O = walk_turns w 0 (l + 1) t e (walk w b) a o s l in
    let by_itself : walk w (before (While t e b) done) a o s l ≡ turns = then_goes turns in
    subst (λ (y : Way O). Did r y o' s' l')
    (ap (λ (y : Stmt). walk_turns w 0 (l + 1) (tag_of y) (expr_of y) (walk w b) a o s l) shape ∙ sym by_itself ∙ ap (λ (y : Stmt). walk w (before y done) a o s l) (sym shape))
    did
