use Rattle.std.proofs.Common.{rules}
use Rattle.hprkit_words.proofs.commands.at_from.Goals as goal

pub returns : goal.returns
returns c = search rules
