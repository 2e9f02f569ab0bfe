use borrow.Author.Count.{below_more}
use Rattle.std.proofs.Common.{◌≡◌, ◌≤◌, ℕ, Some, slice_get, arith, subst}
use Rattle.hpr_order.specs.declared.item.Item.{Item}
use Rattle.hpr_order.proofs.ListFacts.{one_get}
use Rattle.hpr_order.proofs.Steps.{read_of}
use Rattle.hpr_region.proofs.planning.have_serials.Goals as goal

pub loop-item-preserved : goal.loop-item-preserved
loop-item-preserved c = λ k i within at.
    let items = c.args.items.now in
    below_more (λ (n : ℕ). (j : Item) → slice_get items n ≡ Some j → 1 ≤ j.tag.serial) c.loop-item.item-index
    (λ n lt j e. c.loop-item.invariant n j lt e)
    (λ j e. subst (λ (z : Item). 1 ≤ z.tag.serial)
    (one_get items c.loop-item.item-index c.item-item.result j
    (read_of items c.loop-item.item-index c.item-item.result c.loop-item-test.true c.item-item.is) e)
    (omega arith))
    k within i at
