use Rattle.std.proofs.Common.{arith}
use Rattle.std.proofs.lemmas.Grind.{common_steps}
use Rattle.hpr_split.proofs.numbers.with_more.Goals as goal

pub returns-clause-author : goal.returns-clause-author
returns-clause-author c = grind (arith, common_steps)
