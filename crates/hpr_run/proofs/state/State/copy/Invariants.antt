use Rattle.std.proofs.Common.{◌≡◌}
use Rattle.hpr_run.proofs.States.{onto}
use Rattle.hpr_run.proofs.state.State.copy.Given as goal

abbrev pub invariant-loop-name : goal.invariant-loop-name
invariant-loop-name l = onto l.name-iterator.iter l.copy ≡ l.self
