use Rattle.std.proofs.Common.{rules}
use Rattle.hpr_run.proofs.state.State.element.Goals as goal

pub returns-in-Some : goal.returns-in-Some
returns-in-Some c = search rules
