use Rattle.std.proofs.Common.{Ok, Err}
use Rattle.hpr_build.proofs.Rising.{place_of_search}
use Rattle.hpr_build.proofs.orders.place_from.Goals as goal

pub returns-in-Ok : goal.returns-in-Ok
returns-in-Ok c =
    let is = place_of_search c.args.numbers.now c.args.bound (Ok c.in-Ok.at) c.requires c.in-Ok.ensures.position in
    record { within = is.within; below = is.below; above = is.above }

pub returns-in-Err : goal.returns-in-Err
returns-in-Err c =
    let is = place_of_search c.args.numbers.now c.args.bound (Err c.in-Err.at) c.requires c.in-Err.ensures.position in
    record { within = is.within; below = is.below; above = is.above }
