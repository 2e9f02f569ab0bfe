use Rattle.std.proofs.Common.{◌≡◌, ◌<◌, ℕ, Bool, List, [], ◌∷◌, ◌++◌, true, false, length, vec_len, refl, sym, ap, ◌∙◌, subst, arith, rules}
use Rattle.std.proofs.lemmas.List.{length-map}
use Rattle.hpr_forest.specs.Forest.{IsDistinct}
use Rattle.hpr_forest.specs.Marks.{IsMarksOf, is_in}
use Rattle.hpr_region.specs.Private.Needs.{AreNeeds}
use Rattle.hpr_region.specs.Plans.{State, may_follow, number_at, size_of}
use Rattle.hpr_region.specs.States.{IsPendingBy}
use Rattle.hpr_region.proofs.Searching.{marks_counted, more_room, number_is, placed_once, plan_free, pushed, room_for, small_item}
use Rattle.hpr_region.proofs.search.Search.push.Goals as goal

pub add_needs-requires-clause-once : goal.add_needs-requires-clause-once
add_needs-requires-clause-once c =
    let s = c.self.inside in
    subst (λ (xs : List ℕ). IsDistinct xs) (sym c.deref-2.ensures.value) (placed_once s.plan s.items.items c.self.invariant.front)

pub add_needs-requires-clause-room : goal.add_needs-requires-clause-room
add_needs-requires-clause-room c =
    let s = c.self.inside in
    let may : may_follow s.plan s.items.items c.args.item ≡ true = subst (λ (z : State). may_follow z.plan z.placed c.args.item ≡ true) (sym c.self.view_is) c.requires.ready in
    subst (λ (xs : List ℕ). length xs < vec_len s.plan.flows.slots) (sym c.deref-2.ensures.value) (more_room s.plan s.items.items c.args.item c.self.invariant.front may)

pub push_reserved-requires : goal.push_reserved-requires
push_reserved-requires c =
    let s = c.self.inside in
    let may : may_follow s.plan s.items.items c.args.item ≡ true = subst (λ (z : State). may_follow z.plan z.placed c.args.item ≡ true) (sym c.self.view_is) c.requires.ready in
    let l : length s.items.items ≡ vec_len s.items = search rules in
    omega (arith, room_for (may_follow s.plan) (size_of s.plan) (plan_free s.plan) s.items.items c.args.item c.self.invariant.front may, c.self.invariant.items_room, l)

pub push_reserved-requires-2 : goal.push_reserved-requires-2
push_reserved-requires-2 c =
    let s = c.self.inside in
    let may : may_follow s.plan s.items.items c.args.item ≡ true = subst (λ (z : State). may_follow z.plan z.placed c.args.item ≡ true) (sym c.self.view_is) c.requires.ready in
    let l : length s.placed.items ≡ vec_len s.placed = search rules in
    let count : length s.placed.items ≡ length s.items.items = ap length c.self.invariant.numbers ∙ length-map s.items.items (number_at s.plan) in
    omega (arith, room_for (may_follow s.plan) (size_of s.plan) (plan_free s.plan) s.items.items c.args.item c.self.invariant.front may, c.self.invariant.placed_room, l, count)

pub invariant_of-self : goal.invariant_of-self
invariant_of-self c =
    let s = c.self.inside in
    let may : may_follow s.plan s.items.items c.args.item ≡ true = subst (λ (z : State). may_follow z.plan z.placed c.args.item ≡ true) (sym c.self.view_is) c.requires.ready in
    let small = plan_free s.plan in
    pushed s.plan s.places.items s.items s.placed c.push_reserved.new.self c.push_reserved-2.new.self s.marks _ s.summary c.push.new.self s.rivals s.needs c.add_needs.new.needs s.pending c.count_placed.new.pending c.args.item c.index-number.result.now c.self.invariant may
    (number_is s.plan.numbers.items c.args.item c.index-number.result.now (small.within s.items.items c.args.item may) c.index-number.ensures)
    c.push_reserved.ensures.items c.push_reserved.ensures.capacity c.push_reserved-2.ensures.items c.push_reserved-2.ensures.capacity refl refl c.push.ensures
    (subst (λ (xs : List ℕ). AreNeeds s.plan.flows s.rivals xs c.add_needs.new.needs.items) (ap (λ (xs : List ℕ). xs ++ c.args.item ∷ []) c.deref-2.ensures.value ∙ sym c.push_reserved.ensures.items) c.add_needs.ensures)
    (subst (λ (xs : List ℕ). IsPendingBy s.plan.choices (xs ++ c.args.item ∷ []) c.count_placed.new.pending) c.deref-3.ensures.value c.count_placed.ensures)

pub index-number-requires : goal.index-number-requires
index-number-requires c =
    let s = c.self.inside in
    let may : may_follow s.plan s.items.items c.args.item ≡ true = subst (λ (z : State). may_follow z.plan z.placed c.args.item ≡ true) (sym c.self.view_is) c.requires.ready in
    let lt = (plan_free s.plan).within s.items.items c.args.item may in
    let l : length s.plan.numbers.items ≡ vec_len s.plan.numbers = search rules in
    omega (arith, lt, l)

pub push-requires-clause-sized : goal.push-requires-clause-sized
push-requires-clause-sized c = c.self.invariant.summed.sized

pub push-requires-clause-item : goal.push-requires-clause-item
push-requires-clause-item c =
    let s = c.self.inside in
    let may : may_follow s.plan s.items.items c.args.item ≡ true = subst (λ (z : State). may_follow z.plan z.placed c.args.item ≡ true) (sym c.self.view_is) c.requires.ready in
    small_item s.plan s.items.items c.args.item may

pub add_needs-requires-clause-rivals : goal.add_needs-requires-clause-rivals
add_needs-requires-clause-rivals c = c.self.invariant.rivalry

pub add_needs-requires-clause-row : goal.add_needs-requires-clause-row
add_needs-requires-clause-row c = marks_counted c.self.inside.plan c.self.inside.marks c.deref.result.now c.deref.ensures.value c.self.invariant.row

pub add_needs-requires-clause-marks : goal.add_needs-requires-clause-marks
add_needs-requires-clause-marks c =
    subst (λ (ms : List Bool). IsMarksOf ms c.deref-2.result.now) (sym c.deref.ensures.value)
    (subst (λ (xs : List ℕ). IsMarksOf c.self.inside.marks.items xs) (sym c.deref-2.ensures.value) c.self.invariant.marked)

pub add_needs-requires-clause-item : goal.add_needs-requires-clause-item
add_needs-requires-clause-item c =
    let s = c.self.inside in
    let may : may_follow s.plan s.items.items c.args.item ≡ true = subst (λ (z : State). may_follow z.plan z.placed c.args.item ≡ true) (sym c.self.view_is) c.requires.ready in
    small_item s.plan s.items.items c.args.item may

pub add_needs-requires-clause-fresh : goal.add_needs-requires-clause-fresh
add_needs-requires-clause-fresh c =
    let s = c.self.inside in
    let may : may_follow s.plan s.items.items c.args.item ≡ true = subst (λ (z : State). may_follow z.plan z.placed c.args.item ≡ true) (sym c.self.view_is) c.requires.ready in
    subst (λ (xs : List ℕ). is_in xs c.args.item ≡ false) (sym c.deref-2.ensures.value) ((plan_free s.plan).fresh s.items.items c.args.item may)

pub add_needs-requires-clause-needs : goal.add_needs-requires-clause-needs
add_needs-requires-clause-needs c =
    let s = c.self.inside in
    subst (λ (xs : List ℕ). AreNeeds s.plan.flows s.rivals xs s.needs.items) (sym c.deref-2.ensures.value) c.self.invariant.counted

pub index_mut-requires : goal.index_mut-requires
index_mut-requires c =
    let s = c.self.inside in
    let may : may_follow s.plan s.items.items c.args.item ≡ true = subst (λ (z : State). may_follow z.plan z.placed c.args.item ≡ true) (sym c.self.view_is) c.requires.ready in
    let lt = (plan_free s.plan).within s.items.items c.args.item may in
    omega (arith, lt, c.self.invariant.row)

pub returns-clause-placed : goal.returns-clause-placed
returns-clause-placed c = c.push_reserved.ensures.items ∙ ap (λ (z : State). z.placed ++ c.args.item ∷ []) c.self.view_is

pub returns-clause-plan : goal.returns-clause-plan
returns-clause-plan c = ap (λ (z : State). z.plan) c.self.view_is

pub count_placed-requires : goal.count_placed-requires
count_placed-requires c =
    let s = c.self.inside in
    let may : may_follow s.plan s.items.items c.args.item ≡ true = subst (λ (z : State). may_follow z.plan z.placed c.args.item ≡ true) (sym c.self.view_is) c.requires.ready in
    let is : c.deref-3.result.now ≡ s.items.items = c.deref-3.ensures.value in
    record {
      pending = subst (λ (xs : List ℕ). IsPendingBy s.plan.choices xs s.pending) (sym is) c.self.invariant.waits;
      may = ap (λ (xs : List ℕ). may_follow s.plan xs c.args.item) is ∙ may;
    }
