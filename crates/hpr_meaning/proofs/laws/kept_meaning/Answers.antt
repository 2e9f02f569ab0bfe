use Rattle.std.proofs.Common.{[], ◌∷◌}
use Rattle.hpr_meaning.proofs.Own.{keeps_two, meaning_kept}
use Rattle.hpr_meaning.proofs.laws.kept_meaning.Goals as goal

pub returns-clause-all : goal.returns-clause-all
returns-clause-all c = meaning_kept

pub returns-clause-two : goal.returns-clause-two
returns-clause-two c = λ base a b m is is_a is_b is_m fits keeps.
    keeps_two base a b m (meaning_kept base m (a ∷ b ∷ []) is (is_a, (is_b, tt)) is_m fits keeps)

pub returns-clause-as_two : goal.returns-clause-as_two
returns-clause-as_two c = keeps_two
