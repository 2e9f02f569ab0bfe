use Rattle.std.proofs.Common.{rules}
use Rattle.hpr_report.proofs.conflicts.many_conflict_text.Goals as goal

pub returns : goal.returns
returns c = search rules
