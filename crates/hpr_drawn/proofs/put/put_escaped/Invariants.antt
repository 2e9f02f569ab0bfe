use Rattle.std.proofs.Common.{◌≡◌, ◌++◌, drop, flat_map}
use Rattle.hpr_drawn.specs.Pictures.{escaped}
use Rattle.hpr_drawn.proofs.put.put_escaped.Given as goal

abbrev pub invariant-loop-byte : goal.invariant-loop-byte
invariant-loop-byte l = l.out.items ++ flat_map escaped (drop l.byte-index l.bytes) ≡ l.initial.out.items ++ flat_map escaped l.bytes
