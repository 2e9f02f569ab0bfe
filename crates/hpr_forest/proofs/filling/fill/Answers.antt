use Rattle.std.proofs.Common.{◌≡◌, ℕ, ◌<◌, true, false, List, [], ◌∷◌, ◌++◌, length, vec_len, refl, sym, ap, ◌∙◌, subst, arith, rules}
use Rattle.hpr_forest.specs.Choices.{Follows}
use Rattle.hpr_forest.specs.Remaining.{can_of}
use Rattle.hpr_forest.specs.Pending.{IsPending}
use Rattle.hpr_forest.proofs.Filled.{dead_end}
use Rattle.hpr_forest.proofs.Leaves.{follows_push}
use Rattle.hpr_forest.proofs.Marked.{marks_push}
use Rattle.hpr_forest.proofs.Starts.{blocks_open}
use Rattle.hpr_forest.proofs.filling.fill.Goals as goal

pub returns-in_default-clause-none : goal.returns-in_default-clause-none
returns-in_default-clause-none c = λ _.
    let b = c.args.blocks.now in
    let q = c.fill.placed.items in
    let e : length q ≡ vec_len c.fill.placed = search rules in
    dead_end b q c.fill.invariant.front (omega (arith, e, c.fill-test.true, c.len.ensures, c.len-in-fill.ensures))
    (subst (λ (xs : List ℕ). (d : ℕ) → d < vec_len b.parents → can_of b xs d ≡ false) c.deref-in-fill.ensures.value
    (λ d lt. c.in_default.ensures.none d (omega arith) lt))

pub fill-preserved : goal.fill-preserved
fill-preserved c =
    let b = c.args.blocks.now in
    let q = c.fill.placed.items in
    let item = c.in-Some.item in
    let n = vec_len b.parents in
    let may : can_of b q item ≡ true = subst (λ (xs : List ℕ). can_of b xs item ≡ true) c.deref-in-fill.ensures.value c.in-Some.ensures.can in
    let small : item < n = (blocks_open b).within q item may in
    record {
      row = c.fill.invariant.row;
      marked = marks_push c.fill.marks.items _ q c.push_reserved.new.self.items item (omega (arith, small, c.fill.invariant.row)) c.fill.invariant.marked refl c.push_reserved.ensures.items;
      pending = subst (λ (xs : List ℕ). IsPending b xs c.place.new.self) (ap (λ (xs : List ℕ). xs ++ item ∷ []) c.deref-in-fill-2.ensures.value ∙ sym c.push_reserved.ensures.items) c.place.ensures;
      front = subst (λ (xs : List ℕ). Follows (can_of b) [] xs) (sym c.push_reserved.ensures.items) (follows_push (can_of b) n [] q item c.fill.invariant.front may);
      len = omega (arith, c.push_reserved.ensures.len, c.fill-test.true, c.len.ensures, c.len-in-fill.ensures);
      room = omega (arith, c.push_reserved.ensures.capacity, c.fill.invariant.room);
    }
