use Rattle.std.proofs.Common.{ℕ, get_or, subst, sym, arith}
use Rattle.std.proofs.lemmas.List.Elements.{Contains-get_or}
use Rattle.std.proofs.lemmas.Option.{slice_get-get_or}
use Rattle.hpr_impact.specs.Private.Ways.{IsStep}
use Rattle.hpr_impact.proofs.Made.{known_visit, made_none, made_more, made_all}
use Rattle.hpr_impact.proofs.why.reasons_at.Goals as goal

pub loop-point-init : goal.loop-point-init
loop-point-init c = made_none _ _ _ _ c.in_ok-reasons.ensures.items

pub visit_at-visit-requires : goal.visit_at-visit-requires
visit_at-visit-requires c =
    let n : ℕ = get_or c.args.points.now c.loop-point.point-index 0 in
    let (v, at, is) = c.requires.known n (Contains-get_or c.args.points.now c.loop-point.point-index 0 c.loop-point-test.true) in
    (v, at)

pub reason_of-requires-clause-point : goal.reason_of-requires-clause-point
reason_of-requires-clause-point c =
    let n : ℕ = get_or c.args.points.now c.loop-point.point-index 0 in
    let is = known_visit c.args.graph.now c.args.points.now c.args.table.now n c.visit_at-visit.result c.requires.known (Contains-get_or c.args.points.now c.loop-point.point-index 0 c.loop-point-test.true) c.visit_at-visit.ensures in
    omega (arith, is.point, is.vertex)

pub reason_of-requires-clause-root : goal.reason_of-requires-clause-root
reason_of-requires-clause-root c =
    let n : ℕ = get_or c.args.points.now c.loop-point.point-index 0 in
    let is = known_visit c.args.graph.now c.args.points.now c.args.table.now n c.visit_at-visit.result c.requires.known (Contains-get_or c.args.points.now c.loop-point.point-index 0 c.loop-point-test.true) c.visit_at-visit.ensures in
    is.root

pub reason_of-requires-clause-from : goal.reason_of-requires-clause-from
reason_of-requires-clause-from c =
    let n : ℕ = get_or c.args.points.now c.loop-point.point-index 0 in
    let is = known_visit c.args.graph.now c.args.points.now c.args.table.now n c.visit_at-visit.result c.requires.known (Contains-get_or c.args.points.now c.loop-point.point-index 0 c.loop-point-test.true) c.visit_at-visit.ensures in
    subst (λ (i : ℕ). IsStep c.args.graph.now i c.visit_at-visit.result.from) (sym is.point) is.step

pub loop-point-preserved : goal.loop-point-preserved
loop-point-preserved c =
    let points = c.args.points.now in
    let i = c.loop-point.point-index in
    made_more _ points _ i (get_or points i 0) c.visit_at-visit.result _ _ _ (slice_get-get_or points i 0 c.loop-point-test.true) c.visit_at-visit.ensures c.in_ok-reason_of.ensures c.loop-point.invariant c.in_ok-push.ensures.items

pub returns : goal.returns
returns c = made_all _ c.args.points.now _ c.loop-point.point-index _ c.loop-point.auto.point-index-end c.loop-point-test.false c.loop-point.invariant
