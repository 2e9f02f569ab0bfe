use Rattle.hpr_meaning.proofs.Own.{all_kept, kept_without_conflict}
use Rattle.hpr_meaning.proofs.laws.merged_end.Goals as goal

pub returns-clause-all : goal.returns-clause-all
returns-clause-all c = λ base m vs is all is_m fits free s n0 f0 rs same e0 ended.
    let (f, finish, kept) = all_kept base m vs is all is_m free fits s n0 f0 rs same e0 ended in (f, finish)

pub returns-clause-two : goal.returns-clause-two
returns-clause-two c = λ base a b m is is_a is_b is_m fits free s n0 n1 n2 f0 f1 f2 e0 e1 e2.
    let (f, ended, kept) = kept_without_conflict base a b m is is_a is_b is_m free fits s n0 n1 n2 f0 f1 f2 e0 e1 e2 in (f, ended)
