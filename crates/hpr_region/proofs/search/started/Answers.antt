use Rattle.std.proofs.Common.{ℕ, List, length, sym, ap, ◌∙◌, subst}
use Rattle.hpr_order.specs.Numbers.{ArePlaces}
use Rattle.hpr_region.proofs.Searching.{nothing_placed}
use Rattle.hpr_region.proofs.search.started.Goals as goal

pub invariant_of-result : goal.invariant_of-result
invariant_of-result c =
    nothing_placed c.args.plan c.in_ok-places.places.items c.in_ok-items.items c.in_ok-placed.placed c.in_ok-marks.marks c.in_ok-summary.summary c.in_ok-rivals.rivals c.in_ok-needs.needs c.in_ok-pending.pending c.len-size.result c.size.result
    (c.len-size.ensures ∙ sym c.deref.ensures.len ∙ ap length c.deref.ensures.value) c.in_ok-items.ensures.items c.in_ok-items.ensures.capacity c.in_ok-placed.ensures.items c.in_ok-placed.ensures.capacity
    c.in_ok-marks.ensures.blank c.in_ok-marks.ensures.len (subst (λ (ns : List ℕ). ArePlaces ns c.in_ok-places.places.items) c.deref.ensures.value c.in_ok-places.ensures) c.in_ok-summary.ensures c.in_ok-rivals.ensures
    c.size.ensures c.in_ok-needs.ensures.none c.in_ok-needs.ensures.len c.in_ok-pending.ensures
