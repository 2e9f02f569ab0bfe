use Rattle.hpr_text.proofs.Numbered.{in_order}
use Rattle.hpr_text.proofs.laws.tags_in_order.Goals as goal

pub returns : goal.returns
returns c = in_order
