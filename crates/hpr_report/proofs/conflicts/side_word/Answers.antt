use Rattle.std.proofs.Common.{rules}
use Rattle.hpr_report.proofs.conflicts.side_word.Goals as goal

pub returns-in-A : goal.returns-in-A
returns-in-A c = search rules
