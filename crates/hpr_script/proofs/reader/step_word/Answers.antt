use Rattle.hpr_script.specs.Reading.{finished}
use Rattle.hpr_script.proofs.reader.step_word.Goals as goal

pub returns : goal.returns
returns c = c.step_at.ensures (finished c.args.found c.args.stage c.args.letters.now) c.finish.ensures
