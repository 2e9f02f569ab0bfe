use Rattle.std.proofs.Common.{refl}
use Rattle.hpr_region.proofs.Latest.{nothing_placed}
use Rattle.hpr_region.proofs.summary.Summary.start.Goals as goal

pub returns : goal.returns
returns c = nothing_placed c.args.flows.now _ _ _ refl c.size.ensures c.in_ok-last.ensures.none c.in_ok-last.ensures.len c.in_ok-earlier.ensures.len
