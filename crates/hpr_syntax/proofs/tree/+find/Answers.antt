use Rattle.std.proofs.Common.{◌≡◌, ℕ, ◌+◌, ◌<◌, Bool, true, false, if◌then◌else◌, Option, Some, None, List, length, get_or, drop, drop_of_length-le, refl, ap, sym, ◌∙◌, rules}
use Rattle.std.specs.Option.{option_or, option_copied}
use Rattle.hpr_terms.specs.declared.tag.Tag.{Tag}
use Rattle.hpr_syntax.specs.declared.tree.Stmt.{Stmt}
use Rattle.hpr_syntax.specs.declared.tree.Stmt.TheVariants.{Assign, If, While, Write, Store}
use Rattle.hpr_syntax.specs.Body.{Body, done}
use Rattle.hpr_syntax.specs.BodyOf.{before, body_of}
use Rattle.hpr_syntax.specs.Parts.{same_tag, find_stmt}
use Rattle.hpr_syntax.proofs.RowLemmas.{drop_turn}
use Rattle.hpr_syntax.proofs.tree.+find.Goals as goal

after_none : (b : Bool) (s : Stmt) (o : Option Stmt) → (if b then Some s else o) ≡ option_or (if b then Some s else None) o
after_none true s o = refl
after_none false s o = refl

after_one : (b : Bool) (s : Stmt) (p o : Option Stmt) → (if b then Some s else option_or p o) ≡ option_or (if b then Some s else option_or p None) o
after_one true s p o = refl
after_one false s (Some x) o = refl
after_one false s None o = refl

after_two : (b : Bool) (s : Stmt) (p q o : Option Stmt)
    → (if b then Some s else option_or p (option_or q o)) ≡ option_or (if b then Some s else option_or p (option_or q None)) o
after_two true s p q o = refl
after_two false s (Some x) q o = refl
after_two false s None (Some x) o = refl
after_two false s None None o = refl

-- it is found in the first part, else in those behind it
first_or_rest : (t : Tag) (s : Stmt) (rest : Body) → find_stmt t (before s rest) ≡ option_or (find_stmt t (before s done)) (find_stmt t rest)
first_or_rest t (Assign u x e) rest = after_none (same_tag u t) (Assign u x e) (find_stmt t rest)
first_or_rest t (If u e a b) rest = after_two (same_tag u t) (If u e a b) (find_stmt t a) (find_stmt t b) (find_stmt t rest)
first_or_rest t (While u e b) rest = after_one (same_tag u t) (While u e b) (find_stmt t b) (find_stmt t rest)
first_or_rest t (Write u x e) rest = after_none (same_tag u t) (Write u x e) (find_stmt t rest)
first_or_rest t (Store u x i e) rest = after_none (same_tag u t) (Store u x i e) (find_stmt t rest)

step : (t : Tag) (whole : Body) (items : List Stmt) (i : ℕ) (s : Stmt) (o : Option Stmt) → find_stmt t whole ≡ find_stmt t (body_of (drop i items))
    → s ≡ get_or items i s → i < length items → o ≡ find_stmt t (before s done) → find_stmt t whole ≡ option_or o (find_stmt t (body_of (drop (i + 1) items)))
step t whole items i s o so is below found =
    let rest = body_of (drop (i + 1) items) in
    so ∙ ap (find_stmt t) (drop_turn items i s below is) ∙ first_or_rest t s rest ∙ ap (λ p. option_or p (find_stmt t rest)) (sym found)

pub Block::find-returns-in-Some : goal.Block::find-returns-in-Some
Block::find-returns-in-Some t c =
    let found = sym (ap option_copied c.in-Some.is) ∙ c.find.ensures in
    sym (step c.args.tag c.args.self.now c.deref-stmt-items.result.now c.loop-stmt.stmt-index c.stmt-item.result (Some c.in-Some.found.now)
    c.loop-stmt.invariant.1 c.stmt-item.is c.loop-stmt-test.true found)

pub Block::find-loop-stmt-preserved : goal.Block::find-loop-stmt-preserved
Block::find-loop-stmt-preserved t c =
    let found = sym (ap option_copied c.in_default.is) ∙ c.find.ensures in (
      c.loop-stmt.invariant.0,
      step c.args.tag c.args.self.now c.deref-stmt-items.result.now c.loop-stmt.stmt-index c.stmt-item.result None
          c.loop-stmt.invariant.1 c.stmt-item.is c.loop-stmt-test.true found,
    )

pub Block::find-returns : goal.Block::find-returns
Block::find-returns t c =
    let over = drop_of_length-le c.deref-stmt-items.result.now c.loop-stmt-test.false in
    sym (c.loop-stmt.invariant.1 ∙ ap (λ l. find_stmt c.args.tag (body_of l)) over)

pub Stmt::find-returns-in-None : goal.Stmt::find-returns-in-None
Stmt::find-returns-in-None t c = search rules

pub Stmt::find-returns-then-eq : goal.Stmt::find-returns-then-eq
Stmt::find-returns-then-eq t c = search rules

pub Stmt::find-returns-in-Some : goal.Stmt::find-returns-in-Some
Stmt::find-returns-in-Some t c = search rules

pub Stmt::find-returns-in-While : goal.Stmt::find-returns-in-While
Stmt::find-returns-in-While t c = search rules

pub Stmt::find-returns-in_default : goal.Stmt::find-returns-in_default
Stmt::find-returns-in_default t c = search rules
