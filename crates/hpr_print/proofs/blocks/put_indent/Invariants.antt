use Rattle.std.proofs.Common.{◌≡◌, ◌++◌}
use Rattle.hpr_syntax.specs.Print.{indent}
use Rattle.hpr_print.proofs.blocks.put_indent.Given as goal

abbrev pub invariant-loop : goal.invariant-loop
invariant-loop l = l.out.items ≡ l.initial.out.items ++ indent l.counter
