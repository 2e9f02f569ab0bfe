use Rattle.hpr_syntax.proofs.TextSpells.{text_spells}
use Rattle.hpr_syntax.proofs.laws.text_spells.Goals as goal

pub returns : goal.returns
returns c = text_spells
