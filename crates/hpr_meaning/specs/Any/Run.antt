-- What a program does, whatever its contents mean, with so many steps to spend. A step is a part without
-- blocks or an evaluation of a predicate.
--
-- After             == where a run is after some statements: it goes on from a state with some steps left, a
--                      part stopped it with a fault, or it is spent and has a further step to do
-- step t a left go  == one step of the part t that gives a, if a step is left; go says what follows
-- then_go after go  == what follows, where the run goes on
-- turns n t e body  == at most n turns of the loop t with the predicate e
-- run_body body s left == a block, from the state s with so many steps left
-- FinalValues       == names with their values
-- final_values names s == these names with what the state s has under them
-- Outcome           == ends, with the final values and the steps taken; faults, with the tag, the fault and
--                      the steps taken, the faulting one counted; more, where all steps are taken and there
--                      is a further one to do
-- outcome names most after == how a run went that had so many steps to spend
-- run p s n         == the run of the program p from the state s with n steps to spend
use Rattle.hpr_meaning.specs.Any.Meaning.{Meaning, Given, next}
use Rattle.std.specs.Prelude.{ℕ, zero, suc, ◌+◌, ◌-◌, if◌then◌else◌, List, map, Ok, Err}
use Rattle.hpr_terms.specs.declared.tag.Tag.{Tag}
use Rattle.hpr_terms.specs.declared.expr.Expr.{Expr}
use Rattle.hpr_syntax.specs.declared.rows.Content.TheVariants.{If, While}
use Rattle.hpr_syntax.specs.Rows.{content_by}
use Rattle.hpr_syntax.specs.Body.{Body, done, action, branch, loop}
use Rattle.hpr_syntax.specs.Tree.{Tree}

pub data After (M : Meaning) : Type 0 where
  goes : (state : M.State) → (left : ℕ) → After M
  stops : (tag : Tag) → (fault : M.Fault) → (left : ℕ) → After M
  spent : After M

module _ (M : Meaning) where
  abbrev pub step : Tag → Given M → ℕ → (M.Value → ℕ → After M) → After M
  step t a zero go = spent
  step t (Ok v) (suc left) go = go v left
  step t (Err f) (suc left) go = stops t f left

  abbrev pub then_go : After M → (M.State → ℕ → After M) → After M
  then_go (goes s left) go = go s left
  then_go (stops t f left) go = stops t f left
  then_go spent go = spent

  abbrev pub turns : ℕ → Tag → Expr → (M.State → ℕ → After M) → M.State → ℕ → After M
  turns zero t e body s left = spent
  turns (suc n) t e body s left =
      step t (M.answer (While e) s) left (λ v left'. if M.holds v then then_go (body s left') (turns n t e body) else goes s left')

  -- A loop makes no more turns than it has steps, and one to see that none is left.
  abbrev pub run_body : Body → M.State → ℕ → After M
  run_body done s left = goes s left
  run_body (action t d rest) s left =
      step t (M.answer (content_by d) s) left (λ v left'. run_body rest (next M (content_by d) v s) left')
  run_body (branch t e a b rest) s left =
      step t (M.answer (If e) s) left (λ v left'. then_go (if M.holds v then run_body a s left' else run_body b s left') (run_body rest))
  run_body (loop t e b rest) s left = then_go (turns (left + 1) t e (run_body b) s left) (run_body rest)

  abbrev pub FinalValues : Type 0
  FinalValues = List (List ℕ × M.Value)

  abbrev pub final_values : List (List ℕ) → M.State → FinalValues
  final_values names s = map (λ x. (x, M.get s x)) names

pub data Outcome (M : Meaning) : Type 0 where
  ends : (finals : FinalValues M) → (steps : ℕ) → Outcome M
  faults : (tag : Tag) → (fault : M.Fault) → (steps : ℕ) → Outcome M
  more : (steps : ℕ) → Outcome M

module _ (M : Meaning) where
  abbrev pub outcome : List (List ℕ) → ℕ → After M → Outcome M
  outcome names most (goes s left) = ends (final_values M names s) (most - left)
  outcome names most (stops t f left) = faults t f (most - left)
  outcome names most spent = more most

  abbrev pub run : Tree → M.State → ℕ → Outcome M
  run p s most = outcome p.finals most (run_body M p.body s most)
