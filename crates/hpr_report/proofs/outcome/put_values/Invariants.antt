use Rattle.std.proofs.Common.{◌≡◌, ◌++◌, drop, flat_map}
use Rattle.hpr_report.specs.Texts.{value_line}
use Rattle.hpr_report.proofs.outcome.put_values.Given as goal

abbrev pub invariant-loop-name : goal.invariant-loop-name
invariant-loop-name l = l.out.items ++ flat_map value_line (drop l.name-index l.values) ≡ l.initial.out.items ++ flat_map value_line l.values
