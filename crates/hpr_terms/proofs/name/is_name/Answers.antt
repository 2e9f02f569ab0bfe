use Rattle.std.proofs.Common.{rules}
use Rattle.hpr_terms.specs.Names.{is_name}
use Rattle.hpr_terms.proofs.name.is_name.Goals as goal

pub returns-then-is_name_like : goal.returns-then-is_name_like
unfolding is_name
returns-then-is_name_like c = search rules
