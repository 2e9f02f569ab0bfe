use Rattle.std.proofs.Common.{take}
use Rattle.hpr_merge.specs.Known.{AreUnknown}
use Rattle.hpr_merge.proofs.known.unknown_numbers.Given as goal

abbrev pub invariant-loop-number : goal.invariant-loop-number
invariant-loop-number l = AreUnknown (take l.number-index l.numbers) l.firsts l.unknown.items
