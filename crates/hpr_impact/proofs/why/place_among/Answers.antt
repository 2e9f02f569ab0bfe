use Rattle.std.proofs.Common.{Ok, Err}
use Rattle.hpr_impact.proofs.Places.{place_found}
use Rattle.hpr_impact.proofs.why.place_among.Goals as goal

pub unreachable-requires : goal.unreachable-requires
unreachable-requires c = place_found c.args.numbers.now c.requires.ascend c.args.number (Err c.in-Err.field-0) c.requires.listed c.in-Err.ensures.position

pub returns : goal.returns
returns c = place_found c.args.numbers.now c.requires.ascend c.args.number (Ok c.in-Ok.place) c.requires.listed c.in-Ok.ensures.position
