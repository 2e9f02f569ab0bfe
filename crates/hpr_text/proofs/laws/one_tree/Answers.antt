use Rattle.hpr_text.proofs.Texts.{one_tree}
use Rattle.hpr_text.proofs.laws.one_tree.Goals as goal

pub returns : goal.returns
returns c = one_tree
