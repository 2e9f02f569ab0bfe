use Rattle.std.proofs.Common.{rules}
use Rattle.hpr_text.proofs.found.Found.begin.Goals as goal

pub issue-requires : goal.issue-requires
issue-requires c = search rules
