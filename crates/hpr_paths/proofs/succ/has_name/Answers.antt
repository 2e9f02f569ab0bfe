use Rattle.std.proofs.Common.{rules}
use Rattle.hpr_paths.proofs.succ.has_name.Goals as goal

pub returns-then-is_same : goal.returns-then-is_same
returns-then-is_same c = search rules
