use Rattle.std.proofs.Common.{◌≡◌, ◌<◌, ℕ, Bool, List, [], ◌∷◌, ◌++◌, sym, ap, ◌∙◌, length, vec_len, refl, subst, arith, rules}
use Rattle.hpr_forest.specs.Forest.{IsDistinct}
use Rattle.hpr_forest.specs.Marks.{IsMarksOf, is_in}
use Rattle.hpr_region.specs.Private.Needs.{AreNeeds}
use Rattle.hpr_region.specs.Plans.{State, may_follow, number_at, size_of}
use Rattle.hpr_region.specs.States.{IsPendingBy}
use Rattle.hpr_region.proofs.Searching.{front_kept, front_taken, last_small, popped}
use Rattle.hpr_region.proofs.search.Search.pop.Goals as goal

pub index_mut-requires : goal.index_mut-requires
index_mut-requires c =
    let s = c.self.inside in
    let row = c.self.invariant.row in
    omega (arith, last_small s.plan s.items.items c.pop.new.self.items c.in_ok-item.item c.self.invariant.front c.in_ok-item.ensures.items, row)

pub pop-requires-2-clause-item : goal.pop-requires-2-clause-item
pop-requires-2-clause-item c =
    let s = c.self.inside in
    let l : length s.plan.numbers.items ≡ vec_len s.plan.numbers = search rules in
    let e = s.plan.flow_count in
    let lt = last_small s.plan s.items.items c.pop.new.self.items c.in_ok-item.item c.self.invariant.front c.in_ok-item.ensures.items in
    omega (arith, lt, l, e)

pub take_needs-requires : goal.take_needs-requires
take_needs-requires c =
    let s = c.self.inside in
    let item = c.in_ok-item.item in
    let front = c.pop.new.self.items in
    let is : c.deref-3.result.now ≡ front = c.deref-3.ensures.value in
    let l : length s.plan.numbers.items ≡ vec_len s.plan.numbers = search rules in
    let e = s.plan.flow_count in
    let taken = front_kept s.plan s.places.items s.items s.placed s.marks s.summary s.rivals s.needs s.pending front item c.self.invariant c.in_ok-item.ensures.items in
    record {
      rivals = c.self.invariant.rivalry;
      row = c.deref-2.ensures.len ∙ (let row = c.self.invariant.row in omega (arith, row, l, e));
      marks = subst (λ (xs : List ℕ). IsMarksOf c.deref-2.result.now xs) (sym is) (subst (λ (row : List Bool). IsMarksOf row front) (sym c.deref-2.ensures.value) taken.marked);
      item = (let lt = taken.within in omega (arith, lt, l, e));
      once = subst (λ (xs : List ℕ). IsDistinct xs) (sym is) taken.once;
      fresh = ap (λ (xs : List ℕ). is_in xs item) is ∙ taken.fresh;
      room = subst (λ (xs : List ℕ). length xs < vec_len s.plan.flows.slots) (sym is) taken.room;
      needs = subst (λ (xs : List ℕ). AreNeeds s.plan.flows s.rivals xs s.needs.items) (c.in_ok-item.ensures.items ∙ ap (λ (xs : List ℕ). xs ++ item ∷ []) (sym is)) c.self.invariant.counted;
    }

pub invariant_of-self-2 : goal.invariant_of-self-2
invariant_of-self-2 c =
    let s = c.self.inside in
    let l : vec_len s.placed ≡ length s.placed.items = search rules in
    popped s.plan s.places.items s.items s.placed c.pop.new.self c.pop-3.new.self s.marks _ s.summary c.pop-2.new.self s.rivals s.needs c.take_needs.new.needs s.pending c.count_taken_back.new.pending c.in_ok-item.item c.self.invariant c.in_ok-item.ensures.items c.pop.ensures.capacity
    (front_taken (number_at s.plan) s.items.items c.pop.new.self.items c.in_ok-item.item (vec_len s.placed) s.placed.items c.pop-3.new.self.items c.in_ok-item.ensures.items c.self.invariant.numbers l c.pop-3.ensures.rest)
    c.pop-3.ensures.capacity refl refl c.pop-2.ensures
    (subst (λ (xs : List ℕ). AreNeeds s.plan.flows s.rivals xs c.take_needs.new.needs.items) c.deref-3.ensures.value c.take_needs.ensures)
    (subst (λ (xs : List ℕ). IsPendingBy s.plan.choices xs c.count_taken_back.new.pending) c.deref.ensures.value c.count_taken_back.ensures)

pub returns-clause-within : goal.returns-clause-within
returns-clause-within c =
    let s = c.self.inside in
    subst (λ (z : State). c.in_ok-item.item < size_of z.plan) c.self.view_is
    (last_small s.plan s.items.items c.pop.new.self.items c.in_ok-item.item c.self.invariant.front c.in_ok-item.ensures.items)

pub count_taken_back-requires : goal.count_taken_back-requires
count_taken_back-requires c =
    let s = c.self.inside in
    let item = c.in_ok-item.item in
    let front = c.pop.new.self.items in
    let is : c.deref.result.now ≡ front = c.deref.ensures.value in
    let taken = front_kept s.plan s.places.items s.items s.placed s.marks s.summary s.rivals s.needs s.pending front item c.self.invariant c.in_ok-item.ensures.items in
    record {
      pending = subst (λ (xs : List ℕ). IsPendingBy s.plan.choices xs s.pending) (c.in_ok-item.ensures.items ∙ ap (λ (xs : List ℕ). xs ++ item ∷ []) (sym is)) c.self.invariant.waits;
      may = ap (λ (xs : List ℕ). may_follow s.plan xs item) is ∙ taken.may;
    }
