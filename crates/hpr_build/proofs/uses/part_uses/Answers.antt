use Rattle.std.proofs.Common.{List, Contains, sym, subst, arith}
use Rattle.hpr_terms.proofs.Facts.{in_none}
use Rattle.hpr_paths.specs.Spots.{UsesAt}
use Rattle.hpr_reach.proofs.Grown.{turn_point}
use Rattle.hpr_graph.specs.Graphs.{IsOnce}
use Rattle.hpr_graph.proofs.Lists.{once_none}
use Rattle.hpr_build.specs.declared.uses.Use.{Use}
use Rattle.hpr_build.proofs.uses.part_uses.Goals as goal

pub loop-point-init : goal.loop-point-init
loop-point-init c = record {
  exact = λ u. (
    (λ h. absurd (in_none u (subst (λ (us : List Use). Contains us u) c.new-uses.ensures.items h))),
    (λ h. let l = h.0 in absurd (omega (arith, l))),
  );
  once = subst (λ (us : List Use). IsOnce us) (sym c.new-uses.ensures.items) once_none;
}

pub loop-point-preserved : goal.loop-point-preserved
loop-point-preserved c = record {
  exact = λ u. turn_point (λ q. UsesAt c.args.succ.now q u.name) c.loop-point.point u.number _ _ (c.in_ok-push_point.ensures.exact u) (c.loop-point.invariant.exact u);
  once = c.in_ok-push_point.ensures.once c.loop-point.invariant.once (λ u h. ((c.loop-point.invariant.exact u).0 h).0);
}

pub returns-clause-exact : goal.returns-clause-exact
returns-clause-exact c = λ u. (
  (λ h. let (l, uses) = (c.loop-point.invariant.exact u).0 h in (omega (arith, l, c.loop-point.auto.point-end), uses)),
  (λ h. (c.loop-point.invariant.exact u).1 (let l = h.0 in omega (arith, l, c.loop-point-test.false), h.1)),
)
