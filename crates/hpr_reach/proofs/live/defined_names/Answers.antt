use Rattle.std.proofs.Common.{◌≡◌, Some, arith}
use Rattle.std.proofs.lemmas.Result.{IfOk-weaker}
use Rattle.hpr_paths.specs.Spots.{defined_at}
use Rattle.hpr_reach.proofs.Grown.{turn_of_number}
use Rattle.hpr_reach.proofs.Lives.{defined_within}
use Rattle.hpr_reach.proofs.live.defined_names.Goals as goal

pub loop-point-preserved : goal.loop-point-preserved
loop-point-preserved c = λ x.
    turn_of_number (λ p. defined_at c.args.succ.now p ≡ Some x) c.loop-point.point _ _ (c.in_ok-push_defined.ensures x) (c.loop-point.invariant x)

pub returns-clause-exact : goal.returns-clause-exact
returns-clause-exact c = IfOk-weaker c.in_order.result _ _ (λ v same x. (
  (λ h. let b = (c.loop-point.invariant x).0 ((same x).0 h) in (b.0, b.2)),
  (λ (p, d). (same x).1 ((c.loop-point.invariant x).1 (p, (let l = defined_within c.args.succ.now p x d in omega (arith, l, c.loop-point-test.false, c.points-point-end.ensures.points)), d))),
)) c.in_order.ensures.same
