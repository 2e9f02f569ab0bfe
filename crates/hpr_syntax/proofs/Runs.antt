-- Laws of runs.
use Rattle.std.proofs.Common.{ℕ, zero, suc, ◌+◌, ◌≤◌, Bool, true, false, arith, if◌then◌else◌, Ok, Err}
use Rattle.hpr_terms.specs.declared.tag.Tag.{Tag}
use Rattle.hpr_terms.specs.declared.expr.Expr.{Expr}
use Rattle.hpr_syntax.specs.declared.rows.Content.TheVariants.{If, While}
use Rattle.hpr_syntax.specs.Rows.{content_by}
use Rattle.hpr_syntax.specs.Contents.{Given, answer_of, next_state, holds}
use Rattle.hpr_syntax.specs.Body.{Body, done, action, branch, loop}
use Rattle.hpr_syntax.specs.declared.value.Value.{Value}
use Rattle.hpr_syntax.specs.Values.{Values}
use Rattle.hpr_syntax.specs.Run.{After, goes, stops, spent, step, then_go, turns, run_body}

-- no more steps are left than there were
abbrev pub LeavesAtMost : After → ℕ → Type 0
LeavesAtMost (goes s l) n = l ≤ n
LeavesAtMost (stops t f l) n = l ≤ n
LeavesAtMost spent n = Unit {0}

weaken : (x : After) (m n : ℕ) → m ≤ n → LeavesAtMost x m → LeavesAtMost x n
weaken (goes s l) m n h p = omega arith
weaken (stops t f l) m n h p = omega arith
weaken spent m n h p = tt

pub then_leaves : (x : After) (n : ℕ) (k : Values → ℕ → After) → ((s : Values) (l : ℕ) → LeavesAtMost (k s l) l) → LeavesAtMost x n → LeavesAtMost (then_go x k) n
then_leaves (goes s l) n k h p = weaken (k s l) l n p (h s l)
then_leaves (stops t f l) n k h p = p
then_leaves spent n k h p = tt

step_leaves : (t : Tag) (a : Given) (left : ℕ) (f : Value → ℕ → After) → ((v : Value) (l : ℕ) → LeavesAtMost (f v l) l) → LeavesAtMost (step t a left f) left
step_leaves t a zero f h = tt
step_leaves t (Ok v) (suc l) f h = let le : l ≤ suc l = omega arith in weaken (f v l) l (suc l) le (h v l)
step_leaves t (Err e) (suc l) f h = omega arith

pub if_leaves : (b : Bool) (x y : After) (n : ℕ) → LeavesAtMost x n → LeavesAtMost y n → LeavesAtMost (if b then x else y) n
if_leaves true x y n p q = p
if_leaves false x y n p q = q

pub turns_leaves : (n : ℕ) (t : Tag) (e : Expr) (k : Values → ℕ → After) → ((s : Values) (l : ℕ) → LeavesAtMost (k s l) l) → (s : Values) (left : ℕ) → LeavesAtMost (turns n t e k s left) left
turns_leaves zero t e k h s left = tt
turns_leaves (suc n) t e k h s left =
    let step_k : (v : Value) (l : ℕ) → LeavesAtMost (if holds v then then_go (k s l) (turns n t e k) else goes s l) l =
    λ v l. let le : l ≤ l = omega arith in if_leaves (holds v) _ _ l (then_leaves (k s l) l (turns n t e k) (turns_leaves n t e k h) (h s l)) le in
    step_leaves t (answer_of (While e) s) left _ step_k

pub run_body_leaves : (b : Body) (s : Values) (left : ℕ) → LeavesAtMost (run_body b s left) left
run_body_leaves done s left = omega arith
run_body_leaves (action t d rest) s left = step_leaves t (answer_of (content_by d) s) left _ (λ v l. run_body_leaves rest (next_state (content_by d) v s) l)
run_body_leaves (branch t e a b rest) s left =
    step_leaves t (answer_of (If e) s) left _ (λ v l. then_leaves _ l (run_body rest) (run_body_leaves rest) (if_leaves (holds v) _ _ l (run_body_leaves a s l) (run_body_leaves b s l)))
run_body_leaves (loop t e b rest) s left =
    then_leaves _ left (run_body rest) (run_body_leaves rest) (turns_leaves (left + 1) t e (run_body b) (run_body_leaves b) s left)
