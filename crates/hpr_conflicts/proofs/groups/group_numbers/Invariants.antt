use Rattle.std.proofs.Common.{take}
use Rattle.hpr_conflicts.proofs.Numbered.{AreKeyed}
use Rattle.hpr_conflicts.proofs.groups.group_numbers.Given as goal

abbrev pub invariant-loop-conflict : goal.invariant-loop-conflict
invariant-loop-conflict l = AreKeyed (take l.conflict-index l.conflicts) l.keys.keys l.numbers.items
