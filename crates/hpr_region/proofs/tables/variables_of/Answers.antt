use Rattle.std.proofs.Common.{None, refl, sym, subst, arith, rules}
use Rattle.std.proofs.lemmas.Option.{get_or_from_slice_get, slice_get_within}
use Rattle.hpr_syntax.specs.Rows.{assigned}
use Rattle.hpr_order.specs.declared.item.Item.{Item}
use Rattle.hpr_order.proofs.ListFacts.{one_get}
use Rattle.hpr_order.proofs.Steps.{read_of}
use Rattle.hpr_order.proofs.Tabling.{column_more}
use Rattle.hpr_region.specs.Tables.{IsVariable}
use Rattle.hpr_region.proofs.Made.{HasVariable}
use Rattle.hpr_region.proofs.tables.variables_of.Goals as goal

pub variable_in-requires-clause-all : goal.variable_in-requires-clause-all
variable_in-requires-clause-all c = λ x e.
    c.requires.all c.loop-item.item-index c.item-item.result x (read_of c.args.items.now c.loop-item.item-index c.item-item.result c.loop-item-test.true c.item-item.is) e

pub loop-item-preserved : goal.loop-item-preserved
loop-item-preserved c = record {
  len = omega (arith, c.in_ok-push.ensures.len, c.loop-item.invariant.len);
  end = omega (arith, c.loop-item-test.true);
  variables = column_more (HasVariable c.args.names.now c.args.items.now) c.loop-item.variables.items c.push.new.self.items c.loop-item.item-index
      c.variable_in.result (search (rules, c.loop-item.invariant.len)) c.in_ok-push.ensures.items (
        c.variable_in.result,
        refl,
        (λ i e. subst (λ (z : Item). IsVariable c.args.names.now c.variable_in.result (assigned z.content))
            (one_get c.args.items.now c.loop-item.item-index c.item-item.result i (read_of c.args.items.now c.loop-item.item-index c.item-item.result c.loop-item-test.true c.item-item.is) e) c.variable_in.ensures),
      )
      c.loop-item.invariant.variables;
}

pub returns-clause-count : goal.returns-clause-count
returns-clause-count c = omega (arith, c.loop-item.invariant.len, c.loop-item.invariant.end, c.loop-item-test.false)

pub returns-clause-variables : goal.returns-clause-variables
returns-clause-variables c = λ k i e.
    let (v, at, is) = c.loop-item.invariant.variables k (let lt = slice_get_within c.args.items.now k i e in omega (arith, lt, c.loop-item-test.false)) in
    subst (λ z. IsVariable c.args.names.now z (assigned i.content)) (sym (get_or_from_slice_get c.loop-item.variables.items k v None at)) (is i e)
