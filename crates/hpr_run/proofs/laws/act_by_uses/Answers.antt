use Rattle.hpr_syntax.proofs.ActByUses.{act_by_uses}
use Rattle.hpr_run.proofs.laws.act_by_uses.Goals as goal

pub returns : goal.returns
returns c = act_by_uses
