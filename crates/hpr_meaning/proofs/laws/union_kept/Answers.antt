use Rattle.hpr_meaning.proofs.Unions.{union_is_kept}
use Rattle.hpr_meaning.proofs.laws.union_kept.Goals as goal

pub returns : goal.returns
returns c = union_is_kept
