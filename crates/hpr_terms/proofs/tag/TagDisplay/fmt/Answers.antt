use Rattle.std.proofs.Common.{arith}
use Rattle.std.proofs.lemmas.Grind.{common_steps}
use Rattle.hpr_terms.specs.Texts.{tag_text}
use Rattle.hpr_terms.proofs.tag.TagDisplay.fmt.Goals as goal

pub returns-clause-writes : goal.returns-clause-writes
unfolding tag_text
returns-clause-writes g c = grind (arith, common_steps)
