use Rattle.std.proofs.Common.{[], ◌∷◌}
use Rattle.hpr_meaning.proofs.Own.{keeps_two}
use Rattle.hpr_meaning.proofs.SidesKept.{free_of_two}
use Rattle.hpr_rename.proofs.Own.{split_kept}
use Rattle.hpr_rename.proofs.laws.merged_end.Goals as goal

pub returns-clause-all : goal.returns-clause-all
returns-clause-all c = λ base m vs parts is all is_m split_off fits free s n0 f0 rs same e0 ended.
    let (f, finish, kept) = split_kept base m vs parts is all is_m free split_off fits s n0 f0 rs same e0 ended in (f, finish)

pub returns-clause-two : goal.returns-clause-two
returns-clause-two c = λ base a b m parts is is_a is_b is_m split_off fits free s n0 n1 n2 f0 f1 f2 e0 e1 e2.
    let keeps = split_kept base m (a ∷ b ∷ []) parts is (is_a, (is_b, tt)) is_m (free_of_two base a b free) split_off fits in
    let (f, finish, kept) = keeps_two base a b m keeps s n0 n1 n2 f0 f1 f2 e0 e1 e2 in (f, finish)
