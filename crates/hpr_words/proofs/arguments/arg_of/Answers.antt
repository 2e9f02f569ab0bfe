use Rattle.std.proofs.Common.{rules}
use Rattle.hpr_words.proofs.arguments.arg_of.Goals as goal

pub returns-in-Word-clause-rule : goal.returns-in-Word-clause-rule
returns-in-Word-clause-rule c = search rules
