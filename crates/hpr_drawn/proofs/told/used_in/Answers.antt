use Rattle.hpr_drawn.proofs.Uses.{part_uses}
use Rattle.hpr_drawn.proofs.told.used_in.Goals as goal

pub returns : goal.returns
returns c t = part_uses t c.args.content.now c.in_ok-used.used.items c.in_ok-in_order.field-0.items c.in_ok-used.ensures c.in_ok-in_order.ensures.ascending c.in_ok-in_order.ensures.same
