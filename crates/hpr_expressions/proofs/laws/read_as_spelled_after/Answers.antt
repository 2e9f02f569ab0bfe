use Rattle.hpr_expressions.proofs.Spelled.{read_as_spelled_after}
use Rattle.hpr_expressions.proofs.laws.read_as_spelled_after.Goals as goal

pub returns : goal.returns
returns c = read_as_spelled_after
