use Rattle.std.proofs.Common.{rules}
use Rattle.hpr_order.proofs.levels.is_unfit.Goals as goal

pub returns-then-is_large_content : goal.returns-then-is_large_content
returns-then-is_large_content c = search rules

pub returns-else-is_large_content : goal.returns-else-is_large_content
returns-else-is_large_content c = search rules
