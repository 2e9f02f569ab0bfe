use Rattle.hpr_engine.proofs.OneSideAnswer.{a_unchanged, b_unchanged, only_answer}
use Rattle.hpr_engine.proofs.laws.one_side_unchanged.Goals as goal

pub returns-clause-all : goal.returns-clause-all
returns-clause-all c = λ base v vs tries r is is_v only one answer. only_answer (λ t. t) base v vs tries r is is_v only one answer

pub returns-clause-b : goal.returns-clause-b
returns-clause-b c = b_unchanged

pub returns-clause-a : goal.returns-clause-a
returns-clause-a c = a_unchanged
