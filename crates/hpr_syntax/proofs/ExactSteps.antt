-- A run that ends needs no more steps than it takes.
use Rattle.std.proofs.Common.{◌≡◌, ℕ, zero, suc, ◌+◌, ◌-◌, ◌≤◌, ◌<◌, Bool, true, false, List, arith, ap, sym, ◌∙◌, subst, if◌then◌else◌, Ok, Err}
use Rattle.hpr_terms.specs.declared.tag.Tag.{Tag}
use Rattle.hpr_terms.specs.declared.expr.Expr.{Expr}
use Rattle.hpr_syntax.specs.declared.rows.Content.TheVariants.{If, While}
use Rattle.hpr_syntax.specs.Rows.{content_by}
use Rattle.hpr_syntax.specs.Contents.{Given, answer_of, next_state, holds}
use Rattle.hpr_syntax.specs.Body.{Body, done, action, branch, loop}
use Rattle.hpr_syntax.specs.Run.{FinalValues, ends, final_values, run, outcome, After, goes, stops, spent, step, then_go, turns, run_body}
use Rattle.hpr_syntax.specs.Tree.{Tree}
use Rattle.hpr_syntax.specs.Value.{Fault}
use Rattle.hpr_syntax.specs.declared.value.Value.{Value}
use Rattle.hpr_syntax.specs.Values.{Values}
use Rattle.hpr_syntax.proofs.Runs.{LeavesAtMost, then_leaves, if_leaves, turns_leaves, run_body_leaves}

same_left : (s : Values) (l : ℕ) → LeavesAtMost (goes s l) l
same_left s l = omega arith

left_within : (x : After) (n : ℕ) (s : Values) (l : ℕ) → LeavesAtMost x n → x ≡ goes s l → l ≤ n
left_within x n s l h e = subst (λ y. LeavesAtMost y n) e h

never_goes : (s : Values) (l : ℕ) → spent ≡ goes s l → ⊥
never_goes s l e = cc

never_stops : (t : Tag) (f : Fault) (m : ℕ) (s : Values) (l : ℕ) → stops t f m ≡ goes s l → ⊥
never_stops t f m s l e = cc

goes_state : (s u : Values) (l m : ℕ) → goes s l ≡ goes u m → s ≡ u
goes_state s u l m e = cc

goes_left : (s u : Values) (l m : ℕ) → goes s l ≡ goes u m → l ≡ m
goes_left s u l m e = cc

module _ (k : ℕ) where
  -- where x goes on with k steps left or more, y does so with k fewer
  abbrev IsLess : After → After → Type 0
  IsLess x y = (s : Values) (l : ℕ) → x ≡ goes s (l + k) → y ≡ goes s l

  goes_less : (s : Values) (m n : ℕ) → m ≡ n + k → IsLess (goes s m) (goes s n)
  goes_less s m n is u l e =
      let same : m ≡ l + k = goes_left s u m (l + k) e in
      let fewer : n ≡ l = omega (arith, is, same) in
      ap (λ t. goes t n) (goes_state s u m (l + k) e) ∙ ap (goes u) fewer

  step_less : (t : Tag) (a : Given) (m n : ℕ) (f g : Value → ℕ → After) → m ≡ n + k → ((v : Value) (l : ℕ) → LeavesAtMost (f v l) l)
      → ((v : Value) (m n : ℕ) → m ≡ n + k → IsLess (f v m) (g v n)) → IsLess (step t a m f) (step t a n g)
  step_less t a zero n f g is leaves h s l e = absurd (never_goes s (l + k) e)
  step_less t (Ok v) (suc m) zero f g is leaves h s l e =
      let within : l + k ≤ m = left_within (f v m) m s (l + k) (leaves v m) e in
      absurd (omega (arith, is, within))
  step_less t (Ok v) (suc m) (suc n) f g is leaves h s l e = let same : m ≡ n + k = omega (arith, is) in h v m n same s l e
  step_less t (Err x) (suc m) n f g is leaves h s l e = absurd (never_stops t x m s (l + k) e)

  then_less : (x y : After) (f g : Values → ℕ → After) → ((s : Values) (l : ℕ) → LeavesAtMost (f s l) l)
      → ((s : Values) (m n : ℕ) → m ≡ n + k → y ≡ goes s n → IsLess (f s m) (g s n)) → IsLess x y → IsLess (then_go x f) (then_go y g)
  then_less (goes u m) y f g leaves h less s l e =
      let within : l + k ≤ m = left_within (f u m) m s (l + k) (leaves u m) e in
      let is : m ≡ m - k + k = omega (arith, within) in
      let goes_on : y ≡ goes u (m - k) = less u (m - k) (ap (goes u) is) in
      ap (λ z. then_go z g) goes_on ∙ h u m (m - k) is goes_on s l e
  then_less (stops t x m) y f g leaves h less s l e = absurd (never_stops t x m s (l + k) e)
  then_less spent y f g leaves h less s l e = absurd (never_goes s (l + k) e)

  if_less : (b : Bool) (x y z w : After) → IsLess x z → IsLess y w → IsLess (if b then x else y) (if b then z else w)
  if_less true x y z w p q = p
  if_less false x y z w p q = q

  module _ (t : Tag) (e : Expr) (f : Values → ℕ → After) (leaves : (s : Values) (l : ℕ) → LeavesAtMost (f s l) l)
      (h : (s : Values) (m n : ℕ) → m ≡ n + k → IsLess (f s m) (f s n)) where
    -- what follows the test of a loop that may make so many turns more
    abbrev behind_test : ℕ → Values → Value → ℕ → After
    behind_test n s v l = if holds v then then_go (f s l) (turns n t e f) else goes s l

    test_leaves : (n : ℕ) (s : Values) (v : Value) (l : ℕ) → LeavesAtMost (behind_test n s v l) l
    test_leaves n s v l = if_leaves (holds v) _ _ l (then_leaves (f s l) l (turns n t e f) (turns_leaves n t e f leaves) (leaves s l)) (same_left s l)

    module _ (many few : ℕ) (rest : (s : Values) (m n : ℕ) → m ≡ n + k → n < few → IsLess (turns many t e f s m) (turns few t e f s n)) where
      turn_less : (s : Values) (a : Given) (m n : ℕ) → m ≡ n + k → n < suc few → IsLess (step t a m (behind_test many s)) (step t a n (behind_test few s))
      turn_less s a zero n is low u l goes_on = absurd (never_goes u (l + k) goes_on)
      turn_less s (Ok v) (suc m) zero is low u l goes_on =
          let within : l + k ≤ m = left_within (behind_test many s v m) m u (l + k) (test_leaves many s v m) goes_on in
          absurd (omega (arith, is, within))
      turn_less s (Err x) (suc m) n is low u l goes_on = absurd (never_stops t x m u (l + k) goes_on)
      turn_less s (Ok v) (suc m) (suc n) is low u l goes_on =
          let same : m ≡ n + k = omega (arith, is) in
          if_less (holds v) _ _ _ _
          (then_less (f s m) (f s n) (turns many t e f) (turns few t e f) (turns_leaves many t e f leaves)
          (λ x i j both at. (let within : j ≤ n = left_within (f s n) n x j (leaves s n) at in rest x i j both (omega (arith, within, low))))
          (h s m n same))
          (goes_less s m n same) u l goes_on

    -- a loop that may make more turns than it has steps
    turns_less : (many few : ℕ) (s : Values) (m n : ℕ) → m ≡ n + k → n < few → IsLess (turns many t e f s m) (turns few t e f s n)
    turns_less zero few s m n is low u l goes_on = absurd (never_goes u (l + k) goes_on)
    turns_less (suc many) zero s m n is low u l goes_on = absurd (omega (arith, low))
    turns_less (suc many) (suc few) s m n is low u l goes_on =
        turn_less many few (λ x i j both lower. turns_less many few x i j both lower) s (answer_of (While e) s) m n is low u l goes_on

  body_less : (b : Body) (s : Values) (m n : ℕ) → m ≡ n + k → IsLess (run_body b s m) (run_body b s n)
  body_less done s m n is = goes_less s m n is
  body_less (action t d rest) s m n is =
      let c = content_by d in
      step_less t (answer_of c s) m n _ _ is (λ v l. run_body_leaves rest (next_state c v s) l) (λ v i j same. body_less rest (next_state c v s) i j same)
  body_less (branch t e a b rest) s m n is =
      step_less t (answer_of (If e) s) m n _ _ is
      (λ v l. then_leaves _ l (run_body rest) (run_body_leaves rest) (if_leaves (holds v) _ _ l (run_body_leaves a s l) (run_body_leaves b s l)))
      (λ v i j same. then_less _ _ (run_body rest) (run_body rest) (run_body_leaves rest) (λ u i j both at. body_less rest u i j both)
      (if_less (holds v) _ _ _ _ (body_less a s i j same) (body_less b s i j same)))
  body_less (loop t e b rest) s m n is =
      then_less _ _ (run_body rest) (run_body rest) (run_body_leaves rest) (λ u i j both at. body_less rest u i j both)
      (turns_less t e (run_body b) (run_body_leaves b) (λ u i j both. body_less b u i j both) (m + 1) (n + 1) s m n is (omega arith))

exact_outcome : (names : List (List ℕ)) (n steps : ℕ) (f : FinalValues) (x y : After) → LeavesAtMost x n → ((s : Values) (l : ℕ) → n ≡ steps + l → x ≡ goes s (0 + l) → y ≡ goes s 0)
    → outcome names n x ≡ ends f steps → outcome names steps y ≡ ends f steps
exact_outcome names n steps f (goes s l) y low less e =
    let taken : n - l ≡ steps = cc in
    let is : n ≡ steps + l = omega (arith, low, taken) in
    let none : l ≡ 0 + l = omega arith in
    let all : steps - 0 ≡ steps = omega arith in
    ap (outcome names steps) (less s l is (ap (goes s) none)) ∙ ap (ends (final_values names s)) (all ∙ sym taken) ∙ e
exact_outcome names n steps f (stops t x l) y low less e = absurd cc
exact_outcome names n steps f spent y low less e = absurd cc

pub exact_steps : (p : Tree) (s : Values) (n steps : ℕ) (f : FinalValues) → run p s n ≡ ends f steps → run p s steps ≡ ends f steps
exact_steps p s n steps f e =
    exact_outcome p.finals n steps f (run_body p.body s n) (run_body p.body s steps) (run_body_leaves p.body s n)
    (λ u l is goes_on. body_less l p.body s n steps is u 0 goes_on) e
