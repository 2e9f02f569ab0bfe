use Rattle.std.proofs.Common.{◌≡◌, ◌+◌, Some, ◌∙◌, sym, ap, arith}
use Rattle.hpr_order.specs.Lifting.{level_of, parent_in}
use Rattle.hpr_order.proofs.Climbs.{up_within, up_level, up_under}
use Rattle.hpr_order.proofs.Linking.{differ_true}
use Rattle.hpr_order.proofs.lift.siblings.Goals as goal

pub climb-preserved : goal.climb-preserved
climb-preserved c =
    let up_a : parent_in c.args.items.now c.climb.a ≡ Some c.in-Some-Some.over_a = sym c.parent_of-in-climb-2.ensures ∙ c.in-Some-Some.is-0 in
    let up_b : parent_in c.args.items.now c.climb.b ≡ Some c.in-Some-Some.over_b = sym c.parent_of-in-climb-3.ensures ∙ c.in-Some-Some.is-1 in
    let step_a : level_of c.args.levels.now c.climb.a ≡ level_of c.args.levels.now c.in-Some-Some.over_a + 1 =
    up_level c.args.items.now c.args.levels.now c.requires.levels c.climb.a c.in-Some-Some.over_a c.climb.invariant.first up_a in
    let step_b : level_of c.args.levels.now c.climb.b ≡ level_of c.args.levels.now c.in-Some-Some.over_b + 1 =
    up_level c.args.items.now c.args.levels.now c.requires.levels c.climb.b c.in-Some-Some.over_b c.climb.invariant.second up_b in
    record {
      first = up_within c.args.items.now c.requires.slots c.climb.a c.in-Some-Some.over_a c.climb.invariant.first up_a;
      second = up_within c.args.items.now c.requires.slots c.climb.b c.in-Some-Some.over_b c.climb.invariant.second up_b;
      level = omega (arith, c.climb.invariant.level);
      differ = λ same. differ_true c.ne.result c.parent_of.result c.parent_of-in-climb.result c.ne.ensures c.climb-test.true
          (c.parent_of.ensures ∙ up_a ∙ ap Some same ∙ sym up_b ∙ sym c.parent_of-in-climb.ensures);
      under_first = up_under c.args.items.now c.climb.a c.in-Some-Some.over_a c.args.first up_a c.climb.invariant.under_first;
      under_second = up_under c.args.items.now c.climb.b c.in-Some-Some.over_b c.args.second up_b c.climb.invariant.under_second;
    }
