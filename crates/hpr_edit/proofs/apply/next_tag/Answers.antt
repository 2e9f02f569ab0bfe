use Rattle.std.proofs.Common.{rules}
use Rattle.hpr_edit.proofs.apply.next_tag.Goals as goal

pub returns-clause-tag : goal.returns-clause-tag
returns-clause-tag c = search rules
