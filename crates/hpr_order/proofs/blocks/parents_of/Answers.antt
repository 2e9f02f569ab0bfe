use Rattle.std.proofs.Common.{◌≡◌, Some, ap, arith, rules}
use Rattle.hpr_order.specs.Lifting.{parent_in}
use Rattle.hpr_order.proofs.Tabling.{column_more}
use Rattle.hpr_order.proofs.blocks.parents_of.Goals as goal

pub loop-item-preserved : goal.loop-item-preserved
loop-item-preserved c = record {
  len = omega (arith, c.in_ok-push.ensures.len, c.loop-item.invariant.len);
  parents = column_more (λ k o. o ≡ Some (parent_in c.args.items.now k)) c.loop-item.parents.items c.push.new.self.items c.loop-item.item c.parent_of.result
      (search (rules, c.loop-item.invariant.len)) c.in_ok-push.ensures.items (ap (λ z. Some z) c.parent_of.ensures) c.loop-item.invariant.parents;
}

pub returns-clause-count : goal.returns-clause-count
returns-clause-count c = omega (arith, c.loop-item.invariant.len, c.loop-item-test.false, c.loop-item.auto.item-end)

pub returns-clause-parents : goal.returns-clause-parents
returns-clause-parents c = λ k lt. c.loop-item.invariant.parents k (omega (arith, lt, c.loop-item-test.false))
