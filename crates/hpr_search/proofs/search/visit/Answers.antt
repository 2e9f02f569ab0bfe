use Rattle.std.proofs.Common.{◌≡◌, ◌∙◌, ℕ, ◌+◌, ◌<◌, true, false, List, sym, ap, subst, length, take, set, get_or, ◌++◌, ◌∷◌, [], arith}
use Rattle.std.proofs.lemmas.Result.{IfOk-from_err}
use Rattle.std.proofs.lemmas.List.{take_more, take_all, get_or_default}
use Rattle.hpr_search.specs.Marks.{Visited}
use Rattle.hpr_search.proofs.Marked.{visited_again, visited_new}
use Rattle.hpr_search.proofs.search.visit.Goals as goal
use Rattle.hpr_search.proofs.search.visit.Goals.{then-not-index+in_ok-push, else-not-index}

pub loop-point-preserved : goal.loop-point-preserved
loop-point-preserved c =
    let v = c.loop-point.invariant in
    let q : ℕ = get_or c.args.points.now c.loop-point.point-index 0 in
    let within : q < length c.args.marks.now.items = c.requires.within c.loop-point.point-index 0 c.loop-point-test.true in
    let inside : q < length c.loop-point.marks.items = omega (arith, within, v.size) in
    let read : get_or c.loop-point.marks.items q false ≡ c.index.result.now =
    get_or_default c.loop-point.marks.items q false c.index.result.now inside ∙ sym c.index.ensures in
    let front : take (c.loop-point.point-index + 1) c.args.points.now ≡ take c.loop-point.point-index c.args.points.now ++ q ∷ [] =
    take_more c.args.points.now c.loop-point.point-index 0 c.loop-point-test.true in
    elim c.if-not-index.branch [
      | then-not-index+in_ok-push w ↦
          let marks : c.if-not-index.marks.items ≡ set c.loop-point.marks.items q true = ap (λ m. m.items) w.marks-is in
          let order : c.if-not-index.order.items ≡ c.loop-point.order.items ++ q ∷ [] = ap (λ o. o.items) w.order-is ∙ w.in_ok-push.ensures.items in
          rw (marks, order, front) (visited_new _ _ _ _ _ q v within (read ∙ w.if-not-index.true))
      | else-not-index w ↦
          let marks : c.if-not-index.marks.items ≡ c.loop-point.marks.items = ap (λ m. m.items) w.marks-is in
          let order : c.if-not-index.order.items ≡ c.loop-point.order.items = ap (λ o. o.items) w.order-is in
          rw (marks, order, front) (visited_again _ _ _ _ _ q v (read ∙ w.if-not-index.false))
    ]

pub index-requires : goal.index-requires
index-requires c =
    let within : get_or c.args.points.now c.loop-point.point-index 0 < length c.args.marks.now.items =
    c.requires.within c.loop-point.point-index 0 c.loop-point-test.true in
    omega (arith, within, c.loop-point.invariant.size)

pub index_mut-requires : goal.index_mut-requires
index_mut-requires c =
    let within : get_or c.args.points.now c.loop-point.point-index 0 < length c.args.marks.now.items =
    c.requires.within c.loop-point.point-index 0 c.loop-point-test.true in
    omega (arith, within, c.loop-point.invariant.size)

pub returns-in_err-push : goal.returns-in_err-push
returns-in_err-push c = IfOk-from_err c.from_residual.result _ c.from_residual.ensures.0

pub returns : goal.returns
returns c =
    subst (λ (ps : List ℕ). Visited c.args.order.now.items ps (length c.args.marks.now.items) c.loop-point.marks.items c.loop-point.order.items)
    (take_all c.loop-point.point-index c.args.points.now c.loop-point-test.false) c.loop-point.invariant
