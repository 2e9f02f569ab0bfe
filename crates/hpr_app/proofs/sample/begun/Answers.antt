use Rattle.std.proofs.Common.{rules, append_assoc}
use Rattle.hpr_app.proofs.sample.begun.Goals as goal

pub returns : goal.returns
returns c = search (rules, append_assoc)
