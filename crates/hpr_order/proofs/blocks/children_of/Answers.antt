use Rattle.std.proofs.Common.{◌≡◌, ℕ, length, sym, subst, ◌∙◌, arith}
use Rattle.hpr_order.proofs.ItemRows.{AreUnderTo, none_under, under_more, under_top}
use Rattle.hpr_order.proofs.blocks.children_of.Goals as goal

pub loop-child-init : goal.loop-child-init
loop-child-init c = record { count = c.in_ok-rows.ensures.count; under = none_under c.args.items.now c.in_ok-rows.rows c.in_ok-rows.ensures.blank }

pub loop-child-preserved-in_default : goal.loop-child-preserved-in_default
loop-child-preserved-in_default c = record {
  count = c.loop-child.invariant.count;
  under = under_top c.args.items.now c.loop-child.child c.loop-child.rows (sym c.parent_of.ensures ∙ c.in_default.is) c.loop-child.invariant.under;
}

pub loop-child-preserved : goal.loop-child-preserved
loop-child-preserved c = record {
  count = c.in_ok-push.ensures.count ∙ c.loop-child.invariant.count;
  under = under_more c.args.items.now c.loop-child.child c.in-Some.parent c.loop-child.rows c.push.new.self (sym c.parent_of.ensures ∙ c.in-Some.is) c.in_ok-push.ensures.pushed c.loop-child.invariant.under;
}

pub returns-clause-children : goal.returns-clause-children
returns-clause-children c =
    let all : c.loop-child.child ≡ length c.args.items.now = omega (arith, c.loop-child-test.false, c.loop-child.auto.child-end) in
    subst (λ (n : ℕ). AreUnderTo c.args.items.now n c.loop-child.rows) all c.loop-child.invariant.under
