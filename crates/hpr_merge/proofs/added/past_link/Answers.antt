use Rattle.hpr_merge.proofs.Bits.{left_bit}
use Rattle.hpr_merge.proofs.added.past_link.Goals as goal

pub returns-clause-left : goal.returns-clause-left
returns-clause-left c = λ i few. left_bit c.args.waiting c.args.more i c.ranges.more.fits few
