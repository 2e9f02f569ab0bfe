use Rattle.std.proofs.Common.{rules}
use Rattle.hpr_text.proofs.found.Found.index_begins.Goals as goal

pub returns : goal.returns
returns c = search rules
