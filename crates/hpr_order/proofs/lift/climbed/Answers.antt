use Rattle.std.proofs.Common.{◌≡◌, ◌+◌, Some, ◌∙◌, sym, arith}
use Rattle.hpr_order.specs.Lifting.{level_of, parent_in}
use Rattle.hpr_order.proofs.Climbs.{up_within, up_level, up_under}
use Rattle.hpr_order.proofs.lift.climbed.Goals as goal

pub climb-preserved : goal.climb-preserved
climb-preserved c =
    let up : parent_in c.args.items.now c.climb.at ≡ Some c.in-Some.parent = sym c.parent_of.ensures ∙ c.in-Some.is in
    let within = c.climb.invariant.within in
    let step : level_of c.args.levels.now c.climb.at ≡ level_of c.args.levels.now c.in-Some.parent + 1 =
    up_level c.args.items.now c.args.levels.now c.requires.levels c.climb.at c.in-Some.parent within up in
    record {
      within = up_within c.args.items.now c.requires.slots c.climb.at c.in-Some.parent within up;
      level = omega (arith, c.climb-test.true);
      under = up_under c.args.items.now c.climb.at c.in-Some.parent c.args.item up c.climb.invariant.under;
    }
