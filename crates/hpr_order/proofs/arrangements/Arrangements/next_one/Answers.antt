use Rattle.std.proofs.Common.{◌≡◌, Contains, sym, subst}
use Rattle.hpr_forest.proofs.Unique.{in_first, in_later}
use Rattle.hpr_order.specs.Arranging.{IsProgramOrder, coming, orders_in}
use Rattle.hpr_order.specs.Items.{AreSlots}
use Rattle.hpr_order.proofs.Coming.{coming_same, coming_next}
use Rattle.hpr_order.proofs.arrangements.Arrangements.next_one.Goals as goal

pub program_in-requires-clause-slots : goal.program_in-requires-clause-slots
program_in-requires-clause-slots c = subst AreSlots (sym c.deref.ensures.value) c.self.invariant.slots

pub invariant_of-self : goal.invariant_of-self
invariant_of-self c =
    let same : coming c.self.inside.next c.next_order.new.orders ≡ coming c.self.inside.next c.self.inside.ordered.orders = coming_same c.self.inside.next c.next_order.new.orders c.self.inside.ordered.orders c.in_err-self-inside.ensures.err in
    record {
      slots = c.self.invariant.slots;
      programs = λ order h. c.self.invariant.programs order (subst (λ z. Contains z order) same h);
    }

pub invariant_of-self-2 : goal.invariant_of-self-2
invariant_of-self-2 c =
    let same : coming c.in_ok-self-inside.field-0 c.next_order.new.orders ≡ orders_in c.self.inside.ordered.orders =
    coming_next c.in_ok-self-inside.field-0 c.self.inside.ordered.orders c.next_order.new.orders c.in_ok-self-inside.ensures.some c.in_ok-self-inside.ensures.none in
    record {
      slots = c.self.invariant.slots;
      programs = λ order h.
          c.self.invariant.programs order (subst (λ z. Contains (coming z c.self.inside.ordered.orders) order) (sym c.in-Some.is)
          (in_later c.in-Some.order.items order (orders_in c.self.inside.ordered.orders) (subst (λ z. Contains z order) same h)));
    }

pub program_in-requires-clause-order : goal.program_in-requires-clause-order
program_in-requires-clause-order c =
    let order = c.in-Some.order.items in
    let issued = c.self.inside.issued in
    let is : IsProgramOrder c.self.inside.ordered.items.items issued c.self.inside.finals.items order =
    c.self.invariant.programs order (subst (λ z. Contains (coming z c.self.inside.ordered.orders) order) (sym c.in-Some.is)
    (in_first order (orders_in c.self.inside.ordered.orders))) in
    subst (λ z. IsProgramOrder z issued c.deref-3.result.now c.deref-2.result.now) (sym c.deref.ensures.value)
    (subst (λ z. IsProgramOrder c.self.inside.ordered.items.items issued z c.deref-2.result.now) (sym c.deref-3.ensures.value)
    (subst (λ z. IsProgramOrder c.self.inside.ordered.items.items issued c.self.inside.finals.items z) (sym c.deref-2.ensures.value) is))
