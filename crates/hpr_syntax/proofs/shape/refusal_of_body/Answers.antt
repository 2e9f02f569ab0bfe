use Rattle.std.proofs.Common.{rules}
use Rattle.hpr_syntax.proofs.shape.refusal_of_body.Goals as goal

pub returns-in-Some : goal.returns-in-Some
returns-in-Some c = search rules

pub returns : goal.returns
returns c = search rules
