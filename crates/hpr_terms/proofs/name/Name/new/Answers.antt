use Rattle.std.proofs.Common.{rules}
use Rattle.hpr_terms.proofs.Plain.{name_is_variable}
use Rattle.hpr_terms.proofs.name.Name.new.Goals as goal

pub returns-then-not-is_name-clause-not_a_name : goal.returns-then-not-is_name-clause-not_a_name
returns-then-not-is_name-clause-not_a_name c = search rules

pub invariant_of-result : goal.invariant_of-result
invariant_of-result c = search (rules, name_is_variable)
