use Rattle.hpr_engine.proofs.OneAnswer.{one_answer, one_answer_by, fit_is_printed, fit_is_printed_by, enough, enough_by}
use Rattle.hpr_engine.proofs.laws.one_answer.Goals as goal

pub returns-clause-all_agree : goal.returns-clause-all_agree
returns-clause-all_agree c = λ base vs tries r s is all h k. one_answer_by (λ t. t) base vs is all tries r s h k

pub returns-clause-all_first : goal.returns-clause-all_first
returns-clause-all_first c = λ base vs rs tries ps m r is all free split tried first h.
    fit_is_printed_by (λ t. t) base vs is all tries rs split ps free tried m r first h

pub returns-clause-all_enough : goal.returns-clause-all_enough
returns-clause-all_enough c = λ base vs rs tries ps r is all free split tried few h.
    enough_by (λ t. t) base vs is all tries rs split ps free tried r few h

pub returns-clause-agree : goal.returns-clause-agree
returns-clause-agree c = λ base a b tries r s is is_a is_b h k. one_answer base a b is is_a is_b tries r s h k

pub returns-clause-first : goal.returns-clause-first
returns-clause-first c = λ base a b rs tries ps m r is is_a is_b free split tried first h.
    fit_is_printed base a b is is_a is_b tries rs split ps free tried m r first h

pub returns-clause-enough : goal.returns-clause-enough
returns-clause-enough c = λ base a b rs tries ps r is is_a is_b free split tried few h.
    enough base a b is is_a is_b tries rs split ps free tried r few h
