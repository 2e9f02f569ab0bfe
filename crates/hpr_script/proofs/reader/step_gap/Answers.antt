use Rattle.hpr_script.specs.Reading.{gap_next}
use Rattle.hpr_script.proofs.reader.step_gap.Goals as goal

pub returns : goal.returns
returns c = c.step_at.ensures (gap_next c.args.found c.args.stage c.args.byte) c.feed_gap.ensures
