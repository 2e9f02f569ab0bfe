use Rattle.std.proofs.Common.{◌≡◌, ◌≤◌, ◌-◌, false, length, take, Some}
use Rattle.hpr_scan.specs.declared.scanner.Lex.TheVariants.{Gap}
use Rattle.hpr_scan.specs.Scanner.{feeds}
use Rattle.hpr_scan.proofs.Front.{NoFront}
use Rattle.hpr_scan.proofs.reader.read_front.Given as goal

abbrev pub invariant-loop-place : goal.invariant-loop-place
invariant-loop-place g l =
    let m = g.M.TokenMachine in
    record {
      within : l.place ≤ length l.bytes;
      front : feeds m.next Gap l.fn.machine (take l.place l.bytes) ≡ Some l.scanner;
      goes_on : m.may_end l.scanner.machine ≡ false;
      no_front : NoFront m.next m.may_end l.fn.machine l.bytes l.place;
    }

abbrev pub decreases-loop-place : goal.decreases-loop-place
decreases-loop-place g l = length l.bytes - l.place
