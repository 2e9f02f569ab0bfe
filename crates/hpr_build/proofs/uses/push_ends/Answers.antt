use Rattle.std.proofs.Common.{inl, inr, arith}
use Rattle.hpr_build.proofs.UseRows.{ends_more, ends_apart, ends_whole}
use Rattle.hpr_build.proofs.uses.push_ends.Goals as goal

pub loop-at-init : goal.loop-at-init
loop-at-init c = record {
  exact = λ u. ((λ h. inl h), (λ h. elim h [ inl was ↦ was | inr (j, low, get, at) ↦ absurd (omega (arith, low)) ]));
  once = λ once below. once;
}

pub loop-at-preserved : goal.loop-at-preserved
loop-at-preserved c =
    let finals = c.args.finals.now in
    let k = c.loop-at.at in
    let name = c.index-finals-at.result in
    let old = c.args.into.now.items in
    let was = c.loop-at.into.items in
    let now = c.push_use.new.into.items in
    let items = c.in_ok-push_use.ensures in
    record {
      exact = λ u. ends_more finals c.args.exit k name old was now c.loop-at-test.true c.index-finals-at.is items u (c.loop-at.invariant.exact u);
      once = λ once below. ends_apart finals c.args.exit k name old was now c.loop-at-test.true c.index-finals-at.is items c.loop-at.invariant.exact (c.loop-at.invariant.once once below) below;
    }

pub returns-clause-exact : goal.returns-clause-exact
returns-clause-exact c = λ u. ends_whole c.args.finals.now c.args.exit c.loop-at.at u _ _ (omega (arith, c.loop-at-test.false)) (c.loop-at.invariant.exact u)
