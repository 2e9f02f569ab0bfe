use Rattle.hpr_expressions.proofs.Spelled.{read_as_spelled}
use Rattle.hpr_expressions.proofs.laws.read_as_spelled.Goals as goal

pub returns : goal.returns
returns c = read_as_spelled
