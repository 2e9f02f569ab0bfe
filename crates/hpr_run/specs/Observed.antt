-- A run that is observed, and what its observer knows of it.
--
-- Observing O A       == what an observer does that knows values O, and counts turns as A: the turns in a
--                        turn of a loop; what it knows after a step, of which it is told what the part says
--                        and the number that shows it; and after the last step defined a name
-- observing f g h     == these three
-- Way O               == where a run is after some statements: it goes on from a state with some steps left,
--                        a part stopped it with a fault, or it is spent; and what the observer knows
-- step_way t a o left go == one step of the part t that gives a, if a step is left; go says what follows
-- then_way way go     == what follows, where the run goes on
-- walk_turns w k n t e body a == at most n turns of the loop t with the predicate e, from the turn k on,
--                                under the turns a
-- after_action w n o  == what it knows after an action that defined the name n, if there is one
-- walk w body a o s left == a block under the turns a, from the state s with so many steps left, where the
--                           observer knows o
-- known_in way        == what the observer knows
-- after_in way        == where the run is, without its observer
use Rattle.std.specs.Prelude.{ℕ, ℤ, zero, suc, ◌+◌, if◌then◌else◌, List, Option, Some, None, Ok, Err}
use Rattle.hpr_terms.specs.declared.tag.Tag.{Tag}
use Rattle.hpr_terms.specs.declared.expr.Expr.{Expr}
use Rattle.hpr_syntax.specs.declared.rows.Content.TheVariants.{If, While}
use Rattle.hpr_syntax.specs.declared.rows.Content.{Content}
use Rattle.hpr_syntax.specs.Rows.{content_by, assigned}
use Rattle.hpr_syntax.specs.Contents.{Given, answer_of, next_state, holds, shown_of}
use Rattle.hpr_syntax.specs.Body.{Body, done, action, branch, loop}
use Rattle.hpr_syntax.specs.declared.value.Value.{Value}
use Rattle.hpr_syntax.specs.Values.{Values}
use Rattle.hpr_syntax.specs.Value.{Fault}
use Rattle.hpr_syntax.specs.Run.{After}
use Rattle.hpr_syntax.specs.Run as after

pub record Observing (O A : Type 0) : Type 0 where
  pub in_turn : A → ℕ → A
  pub told : A → Tag → Content → ℤ → Values → O → O
  pub assigned : List ℕ → O → O

abbrev pub observing : {O A : Type 0} → (A → ℕ → A) → (A → Tag → Content → ℤ → Values → O → O) → (List ℕ → O → O) → Observing O A
observing f g h = record { in_turn = f; told = g; assigned = h }

pub data Way (O : Type 0) : Type 0 where
  goes : (known : O) → (state : Values) → (left : ℕ) → Way O
  stops : (tag : Tag) → (fault : Fault) → (known : O) → (left : ℕ) → Way O
  spent : (known : O) → Way O

abbrev pub step_way : {O : Type 0} → Tag → Given → O → ℕ → (Value → ℕ → Way O) → Way O
step_way t a o zero go = spent o
step_way t (Ok v) o (suc left) go = go v left
step_way t (Err f) o (suc left) go = stops t f o left

abbrev pub then_way : {O : Type 0} → Way O → (O → Values → ℕ → Way O) → Way O
then_way (goes o s left) go = go o s left
then_way (stops t f o left) go = stops t f o left
then_way (spent o) go = spent o

abbrev pub walk_turns : {O A : Type 0} → Observing O A → ℕ → ℕ → Tag → Expr → (A → O → Values → ℕ → Way O) → A → O → Values → ℕ → Way O
walk_turns w k zero t e body a o s left = spent o
walk_turns w k (suc n) t e body a o s left =
    step_way t (answer_of (While e) s) o left (λ v left'.
    if holds v
    then then_way (body (w.in_turn a k) (w.told (w.in_turn a k) t (While e) (shown_of (While e) s) s o) s left') (walk_turns w (suc k) n t e body a)
    else goes (w.told (w.in_turn a k) t (While e) (shown_of (While e) s) s o) s left')

-- what the observer knows after an action, where it is told of the name that was assigned, if one was
abbrev pub after_action : {O A : Type 0} → Observing O A → Option (List ℕ) → O → O
after_action w None o = o
after_action w (Some x) o = w.assigned x o

-- A loop makes no more turns than it has steps, and one to see that none is left.
abbrev pub walk : {O A : Type 0} → Observing O A → Body → A → O → Values → ℕ → Way O
walk w done a o s left = goes o s left
walk w (action t d rest) a o s left =
    let c = content_by d in
    step_way t (answer_of c s) o left (λ v left'.
    walk w rest a (after_action w (assigned c) (w.told a t c (shown_of c s) s o)) (next_state c v s) left')
walk w (branch t e b c rest) a o s left =
    step_way t (answer_of (If e) s) o left (λ v left'.
    then_way (if holds v then walk w b a (w.told a t (If e) (shown_of (If e) s) s o) s left' else walk w c a (w.told a t (If e) (shown_of (If e) s) s o) s left') (walk w rest a))
walk w (loop t e b rest) a o s left = then_way (walk_turns w 0 (left + 1) t e (walk w b) a o s left) (walk w rest a)

abbrev pub known_in : {O : Type 0} → Way O → O
known_in (goes o s left) = o
known_in (stops t f o left) = o
known_in (spent o) = o

abbrev pub after_in : {O : Type 0} → Way O → After
after_in (goes o s left) = after.goes s left
after_in (stops t f o left) = after.stops t f left
after_in (spent o) = after.spent
