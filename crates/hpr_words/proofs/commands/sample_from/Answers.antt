use Rattle.std.proofs.Common.{rules}
use Rattle.hpr_words.proofs.commands.sample_from.Goals as goal

pub returns : goal.returns
returns c = search rules
