use Rattle.std.proofs.Common.{rules}
use Rattle.hpr_syntax.proofs.rows.Content.assigned.Goals as goal

pub returns-in-Write : goal.returns-in-Write
returns-in-Write c = search rules
