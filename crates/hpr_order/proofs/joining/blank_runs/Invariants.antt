use Rattle.std.proofs.Common.{◌≡◌, [], replicate}
use Rattle.hpr_order.specs.Joining.{runs_of}
use Rattle.hpr_order.proofs.joining.blank_runs.Given as goal

abbrev pub invariant-loop : goal.invariant-loop
invariant-loop l = runs_of l.runs.items ≡ replicate l.counter []
