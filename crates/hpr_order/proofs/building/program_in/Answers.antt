use Rattle.std.proofs.Common.{◌∙◌}
use Rattle.hpr_order.proofs.Built.{program_by}
use Rattle.hpr_order.proofs.building.program_in.Goals as goal

pub block_in-requires-clause-within : goal.block_in-requires-clause-within
block_in-requires-clause-within c = c.requires.order.within

pub block_in-requires-clause-once : goal.block_in-requires-clause-once
block_in-requires-clause-once c = c.requires.order.once

pub returns : goal.returns
returns c =
    c.from_parts.ensures
    ∙ program_by c.args.items.now c.args.order.now c.in_ok-issued.issued c.args.issued.now c.in_ok-body.body c.in_ok-finals.finals.items c.args.finals.now
    c.in_ok-issued.ensures c.in_ok-body.ensures c.in_ok-finals.ensures
