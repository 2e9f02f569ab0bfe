use Rattle.std.proofs.Common.{rules}
use Rattle.hpr_text.proofs.content.begin_next.Goals as goal

pub returns-in_default : goal.returns-in_default
returns-in_default c = search rules
