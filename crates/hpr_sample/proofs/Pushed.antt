-- The next group, and what stands behind it.
use Rattle.std.proofs.Common.{◌≡◌, ◌≢◌, ℕ, zero, suc, ◌+◌, ◌-◌, ◌<◌, ◌≤◌, List, [], ◌∷◌, ◌++◌, append_assoc, refl, sym, ap, ◌∙◌, arith}
use Rattle.hpr_syntax.specs.declared.tree.Stmt.{Stmt}
use Rattle.hpr_syntax.specs.Body.{Body, done}
use Rattle.hpr_syntax.specs.BodyOf.{before, body_of}
use Rattle.hpr_edit.specs.Places.{joined}
use Rattle.hpr_edit.proofs.Lists.{joined_append, joined_done, joined_twice}
use Rattle.hpr_sample.specs.Draws.{Drawn, draw}
use Rattle.hpr_sample.specs.Private.Making.{after, step}
use Rattle.hpr_sample.specs.Sample.{assignment, assignments, by_kind, conditional, followed_by, groups, repetition}

pub groups_none : (serial words : ℕ) → groups 0 serial words ≡ record { made = done; words = words }
unfolding groups assignments
groups_none serial words = refl

pub groups_few : (left serial words : ℕ) → 1 ≤ left → left < 4 → groups left serial words ≡ step 0 left serial words
unfolding groups assignments
groups_few zero serial words h k = absurd (omega (arith, h))
groups_few (suc zero) serial words h k = refl
groups_few (suc (suc zero)) serial words h k = refl
groups_few (suc (suc (suc zero))) serial words h k = refl
groups_few (suc (suc (suc (suc left)))) serial words h k = absurd (omega (arith, k))

pub groups_many : (left serial words : ℕ) → 4 ≤ left → groups left serial words ≡ step (draw 3 words).made left serial (draw 3 words).words
unfolding groups
groups_many zero serial words h = absurd (omega (arith, h))
groups_many (suc zero) serial words h = absurd (omega (arith, h))
groups_many (suc (suc zero)) serial words h = absurd (omega (arith, h))
groups_many (suc (suc (suc zero))) serial words h = absurd (omega (arith, h))
groups_many (suc (suc (suc (suc left)))) serial words h =
    let one : suc (suc (suc left)) ≡ suc (suc (suc (suc left))) - 1 = omega arith in
    let three : suc left ≡ suc (suc (suc (suc left))) - 3 = omega arith in
    let four : left ≡ suc (suc (suc (suc left))) - 4 = omega arith in
    let kind = draw 3 words in
    λ i. by_kind kind.made
    (followed_by (assignment serial kind.words) (groups (one i) (serial + 1)))
    (followed_by (conditional serial kind.words) (groups (three i) (serial + 3)))
    (followed_by (repetition serial kind.words) (groups (four i) (serial + 4)))

pub kind_two : {X : Type 0} (k : ℕ) (x y z : X) → k ≢ 0 → k ≢ 1 → by_kind k x y z ≡ z
kind_two zero x y z h k = absurd (h refl)
kind_two (suc zero) x y z h k = absurd (k refl)
kind_two (suc (suc n)) x y z h k = refl

-- a group that is pushed
pub pushed : (stmts new : List Stmt) (group : Drawn Body) (words : ℕ) (rest : ℕ → Drawn Body) → group ≡ record { made = body_of new; words = words }
    → after stmts (followed_by group rest) ≡ after (stmts ++ new) (rest words)
pushed stmts new group words rest is =
    ap (λ g. after stmts (followed_by g rest)) is
    ∙ ap (λ (b : Body). record { made = b; words = (rest words).words })
    (sym (joined_twice (body_of stmts) (body_of new) (rest words).made) ∙ ap (λ (b : Body). joined b (rest words).made) (sym (joined_append stmts new)))

pub pushed_assignment : (stmts : List Stmt) (s : Stmt) (left serial before_it words behind : ℕ) → groups left serial before_it ≡ step 0 left serial words
    → assignment serial words ≡ record { made = before s done; words = behind } → after stmts (groups left serial before_it) ≡ after (stmts ++ s ∷ []) (groups (left - 1) (serial + 1) behind)
pushed_assignment stmts s left serial before_it words behind next is =
    ap (after stmts) next ∙ pushed stmts (s ∷ []) (assignment serial words) behind (groups (left - 1) (serial + 1)) is

pub pushed_conditional : (stmts : List Stmt) (s : Stmt) (left serial before_it words behind : ℕ) → groups left serial before_it ≡ step 1 left serial words
    → conditional serial words ≡ record { made = before s done; words = behind } → after stmts (groups left serial before_it) ≡ after (stmts ++ s ∷ []) (groups (left - 3) (serial + 3) behind)
pushed_conditional stmts s left serial before_it words behind next is =
    ap (after stmts) next ∙ pushed stmts (s ∷ []) (conditional serial words) behind (groups (left - 3) (serial + 3)) is

pub pushed_repetition : (stmts : List Stmt) (s t : Stmt) (kind left serial before_it words behind : ℕ) → kind ≢ 0 → kind ≢ 1 → groups left serial before_it ≡ step kind left serial words
    → repetition serial words ≡ record { made = before s (before t done); words = behind }
    → after stmts (groups left serial before_it) ≡ after ((stmts ++ s ∷ []) ++ t ∷ []) (groups (left - 4) (serial + 4) behind)
pushed_repetition stmts s t kind left serial before_it words behind not_zero not_one next is =
    ap (after stmts) (next ∙ kind_two kind _ _ _ not_zero not_one)
    ∙ (pushed stmts (s ∷ t ∷ []) (repetition serial words) behind (groups (left - 4) (serial + 4)) is
    ∙ ap (λ (ss : List Stmt). after ss (groups (left - 4) (serial + 4) behind)) (sym (append_assoc stmts (s ∷ []) (t ∷ []))))

-- all groups are there
pub all_pushed : (stmts : List Stmt) (left serial words : ℕ) → left ≡ 0 → after stmts (groups left serial words) ≡ record { made = body_of stmts; words = words }
all_pushed stmts left serial words none =
    ap (λ n. after stmts (groups n serial words)) none ∙ (ap (after stmts) (groups_none serial words)
    ∙ ap (λ (b : Body). record { made = b; words = words }) (joined_done (body_of stmts)))
