use Rattle.std.proofs.Common.{[], ◌∷◌}
use Rattle.hpr_meaning.proofs.Own.{keeps_two}
use Rattle.hpr_meaning.proofs.SidesKept.{free_of_two}
use Rattle.hpr_rename.proofs.Own.{split_kept}
use Rattle.hpr_rename.proofs.laws.split_keeps.Goals as goal

pub returns-clause-all : goal.returns-clause-all
returns-clause-all c = split_kept

pub returns-clause-two : goal.returns-clause-two
returns-clause-two c = λ base a b m rs is is_a is_b is_m free split fits.
    keeps_two base a b m (split_kept base m (a ∷ b ∷ []) rs is (is_a, (is_b, tt)) is_m (free_of_two base a b free) split fits)
