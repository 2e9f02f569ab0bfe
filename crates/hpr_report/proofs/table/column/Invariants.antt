use Rattle.std.proofs.Common.{map, take}
use Rattle.std.specs.Option.{option_copied}
use Rattle.hpr_report.specs.TableText.{IsColumn}
use Rattle.hpr_report.proofs.table.column.Given as goal

abbrev pub invariant-loop-name : goal.invariant-loop-name
invariant-loop-name l = IsColumn l.names (take l.name-index l.values) (map option_copied l.cells.items)
