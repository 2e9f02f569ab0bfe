use Rattle.std.proofs.Common.{rules}
use Rattle.hpr_search.proofs.search.blank_row.Goals as goal

pub returns : goal.returns
returns c = search rules
