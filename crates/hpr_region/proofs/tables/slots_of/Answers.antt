use Rattle.std.proofs.Common.{◌≡◌, Option, Some, None, slice_get, ap, arith, rules}
use Rattle.std.proofs.lemmas.Option.{get_or_from_slice_get, slice_get_within}
use Rattle.hpr_order.specs.declared.item.Item.{Item}
use Rattle.hpr_forest.specs.Trees.{Slot}
use Rattle.hpr_order.proofs.ListFacts.{one_get}
use Rattle.hpr_order.proofs.Steps.{read_of}
use Rattle.hpr_order.proofs.Tabling.{column_more}
use Rattle.hpr_region.proofs.tables.slots_of.Goals as goal

pub loop-item-preserved : goal.loop-item-preserved
loop-item-preserved c = record {
  len = omega (arith, c.in_ok-push.ensures.len, c.loop-item.invariant.len);
  end = omega (arith, c.loop-item-test.true);
  slots = column_more (λ k (o : Option Slot). (i : Item) → slice_get c.args.items.now k ≡ Some i → o ≡ Some i.slot) c.loop-item.slots.items c.push.new.self.items c.loop-item.item-index
      c.item-item.result.slot (search (rules, c.loop-item.invariant.len)) c.in_ok-push.ensures.items
      (λ i e. ap (λ (z : Item). Some z.slot) (one_get c.args.items.now c.loop-item.item-index c.item-item.result i
      (read_of c.args.items.now c.loop-item.item-index c.item-item.result c.loop-item-test.true c.item-item.is) e)) c.loop-item.invariant.slots;
}

pub returns-clause-count : goal.returns-clause-count
returns-clause-count c = omega (arith, c.loop-item.invariant.len, c.loop-item.invariant.end, c.loop-item-test.false)

pub returns-clause-slots : goal.returns-clause-slots
returns-clause-slots c = λ k i e.
    get_or_from_slice_get c.loop-item.slots.items k i.slot None
    (c.loop-item.invariant.slots k (let lt = slice_get_within c.args.items.now k i e in omega (arith, lt, c.loop-item-test.false)) i e)
