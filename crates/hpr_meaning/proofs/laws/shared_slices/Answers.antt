use Rattle.std.proofs.Common.{Contains}
use Rattle.hpr_meaning.proofs.Own.{slice_shared}
use Rattle.hpr_meaning.proofs.laws.shared_slices.Goals as goal

pub returns : goal.returns
returns c = λ p q points s n m finals prog prog_too same (steps, end). slice_shared p q (Contains points) s n m steps finals prog prog_too same end
