use Rattle.std.proofs.Common.{◌↔◌, ℕ, List, Contains, get_or, subst, arith}
use Rattle.std.proofs.lemmas.List.{get_or_default, take_all}
use Rattle.hpr_search.specs.Marks.{IsMarked}
use Rattle.hpr_graph.proofs.Lists.{not_before}
use Rattle.hpr_build.proofs.Rounds.{kept_more}
use Rattle.hpr_build.proofs.flows.reached_users.Goals as goal

pub loop-point-preserved : goal.loop-point-preserved
loop-point-preserved c =
    let ps = c.points-points.result.now in
    let k = c.loop-point.point-index in
    let q : ℕ = get_or ps k 0 in
    let is = get_or_default ps k 0 q c.loop-point-test.true in
    record {
      exact = kept_more ps k q c.args.users.now c.is_marked.result _ _ c.loop-point-test.true is c.is_marked.ensures c.loop-point.invariant.exact c.in_ok-push_if.ensures.exact;
      once = c.in_ok-push_if.ensures.once c.loop-point.invariant.once (λ h. not_before ps k q c.points-points.ensures.once c.loop-point-test.true is ((c.loop-point.invariant.exact q).0 h).0);
    }

pub returns-clause-exact : goal.returns-clause-exact
returns-clause-exact c = λ p.
    let whole = subst (λ (xs : List ℕ). Contains c.loop-point.reached.items p ↔ (Contains xs p × IsMarked c.args.users.now p)) (take_all c.loop-point.point-index c.points-points.result.now (omega (arith, c.loop-point-test.false))) (c.loop-point.invariant.exact p) in (
      (λ h. let (t, m) = whole.0 h in ((c.points-points.ensures.marked p).0 t, m)),
      (λ (t, m). whole.1 ((c.points-points.ensures.marked p).1 t, m)),
    )
