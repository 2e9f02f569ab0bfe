use Rattle.std.proofs.Common.{rules}
use Rattle.hpr_text.proofs.found.Found.index_next.Goals as goal

pub returns-in_ok-start_after-in-Mark-Becomes : goal.returns-in_ok-start_after-in-Mark-Becomes
returns-in_ok-start_after-in-Mark-Becomes c = search rules
