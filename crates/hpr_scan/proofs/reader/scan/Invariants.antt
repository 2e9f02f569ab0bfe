use Rattle.std.proofs.Common.{◌≡◌, ◌≤◌, ◌-◌, length, take, Some}
use Rattle.hpr_scan.specs.declared.scanner.Lex.TheVariants.{Gap}
use Rattle.hpr_scan.specs.Scanner.{feeds}
use Rattle.hpr_scan.proofs.reader.scan.Given as goal

abbrev pub invariant-loop-place : goal.invariant-loop-place
invariant-loop-place g l =
    record { within : l.place ≤ length l.bytes; front : feeds g.M.TokenMachine.next Gap l.fn.machine (take l.place l.bytes) ≡ Some l.scanner }

abbrev pub decreases-loop-place : goal.decreases-loop-place
decreases-loop-place g l = length l.bytes - l.place
