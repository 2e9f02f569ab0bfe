use Rattle.std.proofs.Common.{take}
use Rattle.hpr_search.specs.Rows.{numbers_of}
use Rattle.hpr_conflicts.proofs.Rowed.{AreRowed}
use Rattle.hpr_conflicts.proofs.groups.group_rows.Given as goal

abbrev pub invariant-loop-at : goal.invariant-loop-at
invariant-loop-at l = AreRowed (take l.at l.numbers) l.count (numbers_of l.rows.items)
