use Rattle.std.proofs.Common.{◌↔◌, ℕ, List, Contains, subst, arith}
use Rattle.std.proofs.lemmas.List.{take_all}
use Rattle.hpr_terms.proofs.Facts.{in_none}
use Rattle.hpr_build.specs.declared.uses.Use.{Use}
use Rattle.hpr_build.specs.Uses.{IsUsedFrom, use_of}
use Rattle.hpr_build.specs.Variables.{points_at}
use Rattle.hpr_build.proofs.NameRows.{once_none}
use Rattle.hpr_build.proofs.UseRows.{used_more, unused}
use Rattle.hpr_build.proofs.variables.users_of.Goals as goal

pub loop-one-init : goal.loop-one-init
loop-one-init c = record {
  len = c.in_ok-rows.ensures.len;
  rows = λ i x get p. (
    (λ h. absurd (in_none p (subst (λ (ps : List ℕ). Contains ps p) (c.in_ok-rows.ensures.none i) h))),
    (λ (v, has, e). absurd (in_none (use_of x v) has)),
  );
  once = λ i x get. once_none _ (c.in_ok-rows.ensures.none i);
}

pub loop-one-preserved : goal.loop-one-preserved
loop-one-preserved c =
    let uses = c.args.uses.now in
    let k = c.loop-one.one-index in
    let u = c.one-item.result in
    let more = used_more c.args.exit uses k u c.loop-one-test.true c.one-item.is c.point_of-point.result c.point_of-point.ensures in
    let free = unused c.args.exit uses k u c.loop-one-test.true c.one-item.is c.requires.once c.requires.apart c.point_of-point.result c.point_of-point.ensures in
    record {
      len = omega (arith, c.in_ok-near.ensures.len, c.loop-one.invariant.len);
      rows = λ i x get p. more x p _ _ (c.in_ok-near.ensures.rows i x get p) (c.loop-one.invariant.rows i x get p);
      once = λ i x get. c.in_ok-near.ensures.once i x get (c.loop-one.invariant.once i x get) (λ name. free x _ (c.loop-one.invariant.rows i x get c.point_of-point.result) name);
    }

pub returns-clause-exact : goal.returns-clause-exact
returns-clause-exact c = λ i x get. (
  c.loop-one.invariant.once i x get,
  λ p. subst (λ (us : List Use). Contains (points_at c.loop-one.rows.items i) p ↔ IsUsedFrom c.args.exit us x p)
      (take_all c.loop-one.one-index c.args.uses.now c.loop-one-test.false) (c.loop-one.invariant.rows i x get p),
)
