use Rattle.std.proofs.Common.{◌-◌, length}
use Rattle.hpr_script.proofs.Places.{Reads}
use Rattle.hpr_script.proofs.reader.read_script.Given as goal

abbrev pub invariant-loop-at : goal.invariant-loop-at
invariant-loop-at l = Reads l.bytes l.at l.reader

abbrev pub decreases-loop-at : goal.decreases-loop-at
decreases-loop-at l = length l.bytes - l.at
