use Rattle.hpr_tagging.proofs.Gaps.{filled_gaps}
use Rattle.hpr_tagging.proofs.laws.filled_gaps.Goals as goal

pub returns : goal.returns
returns c = filled_gaps
