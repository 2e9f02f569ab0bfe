use Rattle.std.proofs.Common.{◌∙◌, sym, subst}
use Rattle.hpr_order.specs.Numbers.{AreItemsOf, ArePartsOf}
use Rattle.hpr_order.proofs.ordered.parts_by_rank.Goals as goal

pub items_at-requires-clause-numbers : goal.items_at-requires-clause-numbers
items_at-requires-clause-numbers c = subst (ArePartsOf c.args.graph.now) (sym c.deref.ensures.value) c.in_ok-numbers.ensures.parts

pub choices_of-requires-clause-numbers : goal.choices_of-requires-clause-numbers
choices_of-requires-clause-numbers c = subst (ArePartsOf c.args.graph.now) (sym c.deref-2.ensures.value) c.in_ok-numbers.ensures.parts

pub choices_of-requires-clause-items : goal.choices_of-requires-clause-items
choices_of-requires-clause-items c =
    subst (λ z. AreItemsOf c.args.graph.now z c.deref-3.result.now) (c.deref.ensures.value ∙ sym c.deref-2.ensures.value)
    (subst (AreItemsOf c.args.graph.now c.deref.result.now) (sym c.deref-3.ensures.value) c.in_ok-items.ensures)
