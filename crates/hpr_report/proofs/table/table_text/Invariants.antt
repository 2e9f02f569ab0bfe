use Rattle.std.proofs.Common.{take}
use Rattle.hpr_report.proofs.TableRows.{AreLinesOf}
use Rattle.hpr_report.proofs.table.table_text.Given as goal

abbrev pub invariant-loop-at : goal.invariant-loop-at
invariant-loop-at l = AreLinesOf l.fn.base l.fn.a l.fn.b l.fn.merged (take l.at l.name-items) l.out.items
