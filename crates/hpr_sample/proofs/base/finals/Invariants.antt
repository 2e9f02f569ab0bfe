use Rattle.std.proofs.Common.{◌≡◌, take}
use Rattle.hpr_sample.specs.Sample.{variable_names}
use Rattle.hpr_sample.proofs.base.finals.Given as goal

abbrev pub invariant-loop-digit : goal.invariant-loop-digit
invariant-loop-digit l = l.names.items ≡ take l.digit variable_names
