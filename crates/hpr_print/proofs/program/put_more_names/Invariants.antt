use Rattle.std.proofs.Common.{◌≡◌, ◌++◌, drop}
use Rattle.hpr_syntax.specs.Print.{after_commas}
use Rattle.hpr_print.proofs.program.put_more_names.Given as goal

abbrev pub invariant-loop-name : goal.invariant-loop-name
invariant-loop-name l = l.out.items ++ after_commas (drop l.name-index l.names) ≡ l.initial.out.items ++ after_commas l.names
