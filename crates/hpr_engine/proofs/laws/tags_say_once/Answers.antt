use Rattle.hpr_closure.proofs.ProgramWhole.{says_once}
use Rattle.hpr_engine.proofs.laws.tags_say_once.Goals as goal

pub returns : goal.returns
returns c = says_once
