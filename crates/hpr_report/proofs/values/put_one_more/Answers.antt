use Rattle.std.proofs.Common.{rules}
use Rattle.hpr_report.proofs.values.put_one_more.Goals as goal

pub returns : goal.returns
returns c = search rules
