use Rattle.std.proofs.Common.{◌≡◌, ◌++◌, map, take}
use Rattle.hpr_kit.specs.Shown.{shown}
use Rattle.hpr_kit.proofs.put.put_shown.Given as goal

abbrev pub invariant-loop-byte : goal.invariant-loop-byte
invariant-loop-byte l = l.text.items ≡ l.initial.text.items ++ map shown (take l.byte-index l.bytes)
