use Rattle.std.proofs.Common.{◌≡◌, ◌++◌, drop}
use Rattle.hpr_report.specs.TableText.{names_in}
use Rattle.hpr_report.proofs.table.push_names.Given as goal

abbrev pub invariant-loop-name : goal.invariant-loop-name
invariant-loop-name l = l.names.items ++ names_in (drop l.name-index l.values) ≡ l.initial.names.items ++ names_in l.values
