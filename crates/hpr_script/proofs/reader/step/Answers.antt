use Rattle.hpr_script.specs.Reading.{inner}
use Rattle.hpr_script.proofs.reader.step.Goals as goal

pub returns : goal.returns
returns c = c.step_at.ensures (inner c.args.begun c.args.found c.args.stage c.args.byte) c.feed_inner.ensures
