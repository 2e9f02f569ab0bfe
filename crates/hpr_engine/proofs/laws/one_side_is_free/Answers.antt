use Rattle.hpr_engine.proofs.OneSide.{a_is_base, b_is_base, only_keeps}
use Rattle.hpr_engine.proofs.laws.one_side_is_free.Goals as goal

pub returns-clause-all : goal.returns-clause-all
returns-clause-all c = λ base v vs is is_v only. only_keeps base v vs only is is_v

pub returns-clause-a : goal.returns-clause-a
returns-clause-a c = a_is_base

pub returns-clause-b : goal.returns-clause-b
returns-clause-b c = b_is_base
