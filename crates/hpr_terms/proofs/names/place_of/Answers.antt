use Rattle.hpr_terms.proofs.InOrder.{found_at, found_none}
use Rattle.hpr_terms.proofs.names.place_of.Goals as goal

pub returns-in-Ok-clause-some : goal.returns-in-Ok-clause-some
returns-in-Ok-clause-some c = found_at c.args.names.now c.args.name.now c.in-Ok.at c.in-Ok.ensures.bound c.in-Ok.ensures.position

pub returns-in-Err-clause-none : goal.returns-in-Err-clause-none
returns-in-Err-clause-none c = found_none c.args.names.now c.args.name.now c.in-Err.field-0 c.requires c.in-Err.ensures.bound c.in-Err.ensures.position
