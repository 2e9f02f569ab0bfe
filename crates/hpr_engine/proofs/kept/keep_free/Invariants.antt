use Rattle.std.proofs.Common.{Contains, take}
use Rattle.hpr_engine.proofs.KeptParts.{AreKept}
use Rattle.hpr_engine.proofs.kept.keep_free.Given as goal

abbrev pub invariant-loop-part : goal.invariant-loop-part
invariant-loop-part l = AreKept l.graph (Contains (take l.part-index l.parts)) l.initial.taken.keys l.taken.keys l.initial.keep.items l.keep.items
