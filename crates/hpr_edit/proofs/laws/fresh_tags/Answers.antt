use Rattle.hpr_edit.proofs.Fresh.{fresh_tags}
use Rattle.hpr_edit.proofs.laws.fresh_tags.Goals as goal

pub returns : goal.returns
returns c = fresh_tags
