use Rattle.hpr_any.proofs.Opaque.{told_apart, uses_listed, defines_named, given_by_number}
use Rattle.hpr_any.proofs.laws.statements.Goals as goal

pub returns-clause-apart : goal.returns-clause-apart
returns-clause-apart g c = λ s t. told_apart s t

pub returns-clause-uses : goal.returns-clause-uses
returns-clause-uses g c = λ s. uses_listed s

pub returns-clause-defines : goal.returns-clause-defines
returns-clause-defines g c = λ s. defines_named s

pub returns-clause-gives : goal.returns-clause-gives
returns-clause-gives g c = λ gives holds stable s values. given_by_number gives holds stable s values
