use Rattle.std.proofs.Common.{arith}
use Rattle.std.proofs.lemmas.Option.{slice_get_within}
use Rattle.hpr_paths.specs.Spots.{UsesAt}
use Rattle.hpr_reach.proofs.Grown.{turn_point}
use Rattle.hpr_reach.proofs.Lives.{uses_within}
use Rattle.hpr_reach.proofs.live.users_of.Goals as goal

pub loop-point-init : goal.loop-point-init
loop-point-init c = record {
  names = omega (arith, c.in_ok-rows.ensures.count, c.max.ensures, c.points.ensures.points);
  points = omega (arith, c.in_ok-rows.ensures.count, c.max.ensures, c.points.ensures.points);
  rows = λ i x get p. ((λ h. absurd (c.in_ok-rows.ensures.blank i p h)), (λ (l, u). absurd (omega (arith, l))));
}

pub loop-point-preserved : goal.loop-point-preserved
loop-point-preserved c = record {
  names = omega (arith, c.in_ok-push_users.ensures.count, c.loop-point.invariant.names);
  points = omega (arith, c.in_ok-push_users.ensures.count, c.loop-point.invariant.points);
  rows = λ i x get p. turn_point (λ q. UsesAt c.args.succ.now q x) c.loop-point.point p _ _ (c.in_ok-push_users.ensures.rows i x get p)
      (c.loop-point.invariant.rows i x get p);
}

pub returns : goal.returns
returns c = λ i x get. (
  omega (arith, slice_get_within c.args.names.now i x get, c.loop-point.invariant.names),
  λ p.
      let is = c.loop-point.invariant.rows i x get p in (
        (λ h. (is.0 h).1),
        (λ u. is.1 (omega (arith, uses_within c.args.succ.now p x u, c.loop-point-test.false, c.points-point-end.ensures.points), u)),
      ),
)
