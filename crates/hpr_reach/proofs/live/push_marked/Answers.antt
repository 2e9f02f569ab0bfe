use Rattle.std.proofs.Common.{◌≡◌, ℕ, Contains, ◌↔◌, ◌⊎◌, length, ap, subst, arith}
use Rattle.std.proofs.lemmas.Bool.{both_ways}
use Rattle.hpr_search.specs.Marks.{IsMarked}
use Rattle.hpr_paths.specs.Spots.{UsesAt}
use Rattle.hpr_reach.specs.Live.{Below}
use Rattle.hpr_reach.proofs.Grown.{turn_of_number, marked_turn, unmarked_turn}
use Rattle.hpr_reach.proofs.live.push_marked.Goals as goal
use Rattle.hpr_reach.proofs.live.push_marked.Goals.{then-has+in_ok-push_undefined, else-has}

pub loop-point-preserved : goal.loop-point-preserved
loop-point-preserved c = λ x.
    let n = c.loop-point.point in
    let U : ℕ → Type 0 = λ p. UsesAt c.args.succ.now p x in
    let D : Type 0 = ¬ Contains c.args.defined.now x in
    let P : ℕ → Type 0 = λ p. IsMarked c.args.row.now p × U p × D in
    elim c.if-has.branch [
      | then-has+in_ok-push_undefined w ↦
          let into : c.if-has.into.items ≡ w.push_undefined.new.into.items = ap (λ v. v.items) w.into-is in
          let here : Contains c.if-has.into.items x ↔ (Contains c.loop-point.into.items x ⊎ P n) =
          rw into (marked_turn _ _ (IsMarked c.args.row.now n) (U n) D (U n) (c.has.ensures.0 w.if-has.true) ((λ u. u), (λ u. u)) (w.in_ok-push_undefined.ensures x)) in
          turn_of_number P n _ _ here (c.loop-point.invariant x)
      | else-has w ↦
          let into : c.if-has.into.items ≡ c.loop-point.into.items = ap (λ v. v.items) w.into-is in
          let free : ¬ IsMarked c.args.row.now n = λ m. both_ways c.has.result w.if-has.false (c.has.ensures.1 m) in
          let here : Contains c.if-has.into.items x ↔ (Contains c.loop-point.into.items x ⊎ P n) =
          rw into (unmarked_turn (Contains c.loop-point.into.items x) (IsMarked c.args.row.now n) (U n) D free) in
          turn_of_number P n _ _ here (c.loop-point.invariant x)
    ]

pub returns : goal.returns
returns c = λ x.
    let end : c.loop-point.point ≡ length c.args.succ.now = omega (arith, c.loop-point-test.false, c.loop-point.auto.point-end, c.points-point-end.ensures.points) in
    subst (λ n. Contains c.loop-point.into.items x ↔ Below (λ p. IsMarked c.args.row.now p × UsesAt c.args.succ.now p x × ¬ Contains c.args.defined.now x) n) end (c.loop-point.invariant x)
