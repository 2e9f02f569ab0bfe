use Rattle.std.proofs.Common.{◌≡◌, take}
use Rattle.hpr_syntax.specs.Run.{final_values}
use Rattle.hpr_run.proofs.interpreter.final_values.Given as goal

abbrev pub invariant-loop-name : goal.invariant-loop-name
invariant-loop-name l = l.list.items ≡ final_values (take l.name-index l.names) l.state
