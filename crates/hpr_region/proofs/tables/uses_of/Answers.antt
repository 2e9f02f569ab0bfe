use Rattle.std.proofs.Common.{◌≡◌, Option, Some, Vec, ℕ, slice_get, subst, arith, rules}
use Rattle.std.specs.Global.{Global}
use Rattle.std.proofs.lemmas.Option.{slice_get_within}
use Rattle.hpr_forest.specs.Blocks.{row_at}
use Rattle.hpr_order.specs.declared.item.Item.{Item}
use Rattle.hpr_order.proofs.ListFacts.{one_get}
use Rattle.hpr_order.proofs.Steps.{read_of}
use Rattle.hpr_order.proofs.Tabling.{column_more}
use Rattle.hpr_region.specs.Tables.{AreUsed}
use Rattle.hpr_region.proofs.tables.uses_of.Goals as goal

pub loop-item-preserved : goal.loop-item-preserved
loop-item-preserved c = record {
  len = omega (arith, c.in_ok-push.ensures.len, c.loop-item.invariant.len);
  end = omega (arith, c.loop-item-test.true);
  uses = column_more (λ k (o : Option (Vec ℕ Global)). (i : Item) → slice_get c.args.items.now k ≡ Some i → AreUsed c.args.names.now (row_at o) i.content) c.loop-item.rows.items c.push.new.self.items
      c.loop-item.item-index c.in_ok-uses_in.field-0 (search (rules, c.loop-item.invariant.len)) c.in_ok-push.ensures.items
      (λ i e. subst (λ (z : Item). AreUsed c.args.names.now c.in_ok-uses_in.field-0.items z.content)
      (one_get c.args.items.now c.loop-item.item-index c.item-item.result i (read_of c.args.items.now c.loop-item.item-index c.item-item.result c.loop-item-test.true c.item-item.is) e) c.in_ok-uses_in.ensures)
      c.loop-item.invariant.uses;
}

pub returns-clause-count : goal.returns-clause-count
returns-clause-count c = omega (arith, c.loop-item.invariant.len, c.loop-item.invariant.end, c.loop-item-test.false)

pub returns-clause-uses : goal.returns-clause-uses
returns-clause-uses c = λ k i e. c.loop-item.invariant.uses k (let lt = slice_get_within c.args.items.now k i e in omega (arith, lt, c.loop-item-test.false)) i e
