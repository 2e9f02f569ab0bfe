use Rattle.std.proofs.Common.{◌≡◌, ℕ, ◌+◌, ◌-◌, List, sym, ap, subst, ◌∙◌}
use Rattle.hpr_syntax.specs.declared.tree.Stmt.{Stmt}
use Rattle.hpr_sample.specs.Private.Making.{after, step}
use Rattle.hpr_sample.specs.Sample.{groups}
use Rattle.hpr_sample.proofs.Pushed.{pushed_assignment, pushed_conditional}
use Rattle.hpr_sample.proofs.base.push_group.Goals as goal

pub returns-in_ok-push-in-0-clause-pushed : goal.returns-in_ok-push-in-0-clause-pushed
returns-in_ok-push-in-0-clause-pushed c =
    let next = subst (λ (k : ℕ). groups c.args.left c.args.serial c.args.words.now ≡ step k c.args.left c.args.serial c.next_kind.new.words) c.in-0.is (c.next_kind.ensures.step c.args.serial) in
    pushed_assignment c.args.stmts.now.items c.in_ok-assignment-in-0.field-0 c.args.left c.args.serial c.args.words.now c.next_kind.new.words c.assignment.new.words next
    c.in_ok-assignment-in-0.ensures
    ∙ ap (λ (ss : List Stmt). after ss (groups (c.args.left - 1) (c.args.serial + 1) c.assignment.new.words)) (sym c.in_ok-push-in-0.ensures.items)

pub returns-in_ok-push-in-1-clause-pushed : goal.returns-in_ok-push-in-1-clause-pushed
returns-in_ok-push-in-1-clause-pushed c =
    let next = subst (λ (k : ℕ). groups c.args.left c.args.serial c.args.words.now ≡ step k c.args.left c.args.serial c.next_kind.new.words) c.in-1.is (c.next_kind.ensures.step c.args.serial) in
    pushed_conditional c.args.stmts.now.items c.in_ok-conditional-in-1.field-0 c.args.left c.args.serial c.args.words.now c.next_kind.new.words c.conditional.new.words next
    c.in_ok-conditional-in-1.ensures
    ∙ ap (λ (ss : List Stmt). after ss (groups (c.args.left - 3) (c.args.serial + 3) c.conditional.new.words)) (sym c.in_ok-push-in-1.ensures.items)
