use Rattle.std.proofs.Common.{rules, arith}
use Rattle.hpr_terms.proofs.expr.Literal.new.Goals as goal

pub invariant_of-result : goal.invariant_of-result
invariant_of-result c = omega arith

pub returns-then-value-clause-valid : goal.returns-then-value-clause-valid
returns-then-value-clause-valid c = search rules
