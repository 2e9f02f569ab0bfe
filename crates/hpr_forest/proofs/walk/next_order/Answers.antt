use Rattle.std.proofs.Common.{◌≡◌, ℕ, ◌∙◌, set, length-set, refl, sym, subst, arith, List, true, false, ◌≤◌, ◌<◌, ◌+◌, [], ◌∷◌, ap, length, length-append}
use Rattle.hpr_forest.specs.Choices.{Follows, IsWhole}
use Rattle.hpr_forest.specs.Marks.{IsMarksOf}
use Rattle.hpr_forest.proofs.Marked.{marks_push, marks_pop}
use Rattle.hpr_forest.proofs.Leaves.{popped, last_gone, next_found, follows_push}
use Rattle.hpr_forest.proofs.walk.next_order.Goals as goal

pub overflow_add-last : goal.overflow_add-last
overflow_add-last g c =
    let p = popped (g.T.Choices.can c.args.choices.now) (g.T.Choices.size c.args.choices.now) c.loop-last.placed.items c.pop.new.self.items c.in-Some.last
    c.requires.choices c.loop-last.invariant.2 c.in-Some.ensures.items (omega arith) in
    let b : c.in-Some.last < g.T.Choices.size c.args.choices.now = p.2 in
    omega (arith, b, c.requires.whole.len)

pub next_child-requires-clause-front : goal.next_child-requires-clause-front
next_child-requires-clause-front g c =
    let p = popped (g.T.Choices.can c.args.choices.now) (g.T.Choices.size c.args.choices.now) c.loop-last.placed.items c.pop.new.self.items c.in-Some.last
    c.requires.choices c.loop-last.invariant.2 c.in-Some.ensures.items (omega arith) in
    subst (Follows (g.T.Choices.can c.args.choices.now) []) (sym c.deref-in-Some.ensures.value) p.0

pub first_order-requires-clause-front : goal.first_order-requires-clause-front
first_order-requires-clause-front g c =
    let can = g.T.Choices.can c.args.choices.now in
    let p = popped can (g.T.Choices.size c.args.choices.now) c.loop-last.placed.items c.pop.new.self.items c.in-Some.last
    c.requires.choices c.loop-last.invariant.2 c.in-Some.ensures.items (omega arith) in
    subst (Follows can []) (sym c.push_reserved.ensures.items) (follows_push can (g.T.Choices.size c.args.choices.now) [] c.pop.new.self.items c.in-Some-next_child.child p.0
    (subst (λ (q : List ℕ). can q c.in-Some-next_child.child ≡ true) c.deref-in-Some.ensures.value c.in-Some-next_child.ensures.can))

pub returns-in-Some-next_child-clause-next : goal.returns-in-Some-next_child-clause-next
returns-in-Some-next_child-clause-next g c = λ yes_.
    let can = g.T.Choices.can c.args.choices.now in
    let whole : IsWhole can (g.T.Choices.size c.args.choices.now) c.first_order.new.placed.items = c.first_order.ensures.whole yes_ in
    next_found can (g.T.Choices.size c.args.choices.now) c.loop-last.placed.items c.pop.new.self.items c.push_reserved.new.self.items c.first_order.new.placed.items c.args.placed.now.items
    c.in-Some.last (c.in-Some.last + 1) c.in-Some-next_child.child
    c.requires.choices c.in-Some.ensures.items (omega arith) c.in-Some-next_child.ensures.from c.push_reserved.ensures.items
    (subst (λ (q : List ℕ). (e : ℕ) → c.in-Some.last + 1 ≤ e → e < c.in-Some-next_child.child → can q e ≡ false) c.deref-in-Some.ensures.value c.in-Some-next_child.ensures.least)
    (subst (λ (q : List ℕ). can q c.in-Some-next_child.child ≡ true) c.deref-in-Some.ensures.value c.in-Some-next_child.ensures.can)
    c.loop-last.invariant.5 whole.len (c.first_order.ensures.same yes_)

pub loop-last-preserved : goal.loop-last-preserved
loop-last-preserved g c =
    let can = g.T.Choices.can c.args.choices.now in
    let n = g.T.Choices.size c.args.choices.now in
    let p = popped can n c.loop-last.placed.items c.pop.new.self.items c.in-Some.last
    c.requires.choices c.loop-last.invariant.2 c.in-Some.ensures.items (omega arith) in (
      c.loop-last.invariant.0,
      marks_pop c.loop-last.marks.items _ c.pop.new.self.items c.loop-last.placed.items c.in-Some.last (omega (arith, p.2, c.loop-last.invariant.0, c.requires.row)) c.loop-last.invariant.1 c.in-Some.ensures.items p.3 refl,
      p.0,
      omega (arith, p.1),
      c.pop.ensures.capacity ∙ c.loop-last.invariant.4,
      last_gone can n c.loop-last.placed.items c.pop.new.self.items c.args.placed.now.items c.in-Some.last (c.in-Some.last + 1)
          c.in-Some.ensures.items (omega arith)
          (subst (λ (q : List ℕ). (d : ℕ) → c.in-Some.last + 1 ≤ d → d < n → can q d ≡ false) c.deref-in-Some.ensures.value c.in_default-next_child.ensures.none)
          c.loop-last.invariant.5,
    )

pub index_mut-requires : goal.index_mut-requires
index_mut-requires g c =
    let p = popped (g.T.Choices.can c.args.choices.now) (g.T.Choices.size c.args.choices.now) c.loop-last.placed.items c.pop.new.self.items c.in-Some.last
    c.requires.choices c.loop-last.invariant.2 c.in-Some.ensures.items (omega arith) in
    let b : c.in-Some.last < g.T.Choices.size c.args.choices.now = p.2 in
    omega (arith, b, c.loop-last.invariant.0, c.requires.row)

pub next_child-requires-clause-marks : goal.next_child-requires-clause-marks
next_child-requires-clause-marks g c =
    let p = popped (g.T.Choices.can c.args.choices.now) (g.T.Choices.size c.args.choices.now) c.loop-last.placed.items c.pop.new.self.items c.in-Some.last
    c.requires.choices c.loop-last.invariant.2 c.in-Some.ensures.items (omega arith) in
    subst (λ (r : List ℕ). IsMarksOf c.deref.result.now r) (sym c.deref-in-Some.ensures.value)
    (marks_pop c.loop-last.marks.items c.deref.result.now c.pop.new.self.items c.loop-last.placed.items c.in-Some.last (omega (arith, p.2, c.loop-last.invariant.0, c.requires.row))
    c.loop-last.invariant.1 c.in-Some.ensures.items p.3 c.deref.ensures.value)

pub first_order-requires-clause-marks : goal.first_order-requires-clause-marks
first_order-requires-clause-marks g c =
    let can = g.T.Choices.can c.args.choices.now in
    let p = popped (g.T.Choices.can c.args.choices.now) (g.T.Choices.size c.args.choices.now) c.loop-last.placed.items c.pop.new.self.items c.in-Some.last
    c.requires.choices c.loop-last.invariant.2 c.in-Some.ensures.items (omega arith) in
    let may : can c.pop.new.self.items c.in-Some-next_child.child ≡ true = subst (λ (q : List ℕ). can q c.in-Some-next_child.child ≡ true) c.deref-in-Some.ensures.value c.in-Some-next_child.ensures.can in
    let small : c.in-Some-next_child.child < g.T.Choices.size c.args.choices.now = c.requires.choices.within c.pop.new.self.items c.in-Some-next_child.child may in
    marks_push (set c.loop-last.marks.items c.in-Some.last false) _ c.pop.new.self.items c.push_reserved.new.self.items c.in-Some-next_child.child
    (omega (arith, small, c.loop-last.invariant.0, c.requires.row, length-set c.loop-last.marks.items c.in-Some.last false))
    (marks_pop c.loop-last.marks.items _ c.pop.new.self.items c.loop-last.placed.items c.in-Some.last (omega (arith, p.2, c.loop-last.invariant.0, c.requires.row))
    c.loop-last.invariant.1 c.in-Some.ensures.items p.3 refl) refl c.push_reserved.ensures.items

pub push_reserved-requires : goal.push_reserved-requires
push_reserved-requires g c =
    let p = popped (g.T.Choices.can c.args.choices.now) (g.T.Choices.size c.args.choices.now) c.loop-last.placed.items c.pop.new.self.items c.in-Some.last
    c.requires.choices c.loop-last.invariant.2 c.in-Some.ensures.items (omega (arith, c.loop-last.invariant.3)) in
    omega (arith, p.1, c.pop.ensures.capacity, c.loop-last.invariant.4, c.requires.room)

pub index_mut-requires-in-Some-next_child : goal.index_mut-requires-in-Some-next_child
index_mut-requires-in-Some-next_child g c =
    let small : c.in-Some-next_child.child < g.T.Choices.size c.args.choices.now =
    c.requires.choices.within c.deref-in-Some.result.now c.in-Some-next_child.child c.in-Some-next_child.ensures.can in
    omega (arith, small, c.loop-last.invariant.0, c.requires.row)

pub loop-last-smaller : goal.loop-last-smaller
loop-last-smaller g c =
    let items = c.in-Some.ensures.items in omega (arith, ap length items, length-append c.pop.new.self.items (c.in-Some.last ∷ []))
